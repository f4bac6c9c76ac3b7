pub mod Faults
pub mod FileNames
pub mod NoLinks
pub mod Sides
pub mod Waits
