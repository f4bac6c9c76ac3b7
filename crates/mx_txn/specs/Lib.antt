pub mod Slots
pub mod Views
