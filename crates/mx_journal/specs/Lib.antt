pub mod Groups
pub mod Packing
pub mod Written
pub mod Crashes
pub mod Counting
pub mod Faults
pub mod Making
