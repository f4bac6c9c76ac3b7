pub mod Recovered
pub mod Replay
pub mod Durability
pub mod Load
pub mod Turns
pub mod Faults
pub mod Applied
