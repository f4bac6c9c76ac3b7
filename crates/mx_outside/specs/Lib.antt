pub mod Accepting
pub mod Causes
pub mod Disks
pub mod Moments
pub mod Passed
