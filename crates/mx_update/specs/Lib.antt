pub mod Updates
pub mod Faults
pub mod Views
pub mod Returns
pub mod Arithmetic
