pub mod Pieces
pub mod Short
pub mod Stored
