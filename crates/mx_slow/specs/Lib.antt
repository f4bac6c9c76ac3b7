pub mod Slow
pub mod SlowReads
pub mod SlowTouches
pub mod SlowReadSteps
