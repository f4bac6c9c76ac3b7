pub mod Changes
pub mod Contents
pub mod Dirs
pub mod FileMaps
pub mod MemoryCrashes
pub mod Tables
