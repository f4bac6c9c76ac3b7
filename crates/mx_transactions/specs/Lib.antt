pub mod Codes
pub mod Open
pub mod OpenSteps
