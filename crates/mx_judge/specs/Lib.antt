pub mod Makes
pub mod Scopes
