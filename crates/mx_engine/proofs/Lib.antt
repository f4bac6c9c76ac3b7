pub mod CommitWorkLaws
pub mod OutcomeLaws
pub mod SelectLaws
pub mod StandingLaws
pub mod StatementLaws
pub mod StatementMemory
pub mod StepLaws
pub mod ViewLaws
pub mod WriteLaws
mod TxsLaws
