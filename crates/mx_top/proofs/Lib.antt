pub mod UnitLaws
mod HeadLaws
mod ConsumedLaws
pub mod ProgressLaws
mod FinishLaws
mod Told
mod RunLaws
