pub mod Marks
pub mod Overlaps
pub mod Tracks
