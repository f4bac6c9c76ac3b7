pub mod Exits
pub mod Seeds
