mod CountLaws
mod LeastLaws
pub mod StateLaws
