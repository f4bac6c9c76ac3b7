pub mod SlowState
pub mod SlowSteps
pub mod SlowWrites
