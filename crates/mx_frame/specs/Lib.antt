pub mod Packets
pub mod Spelled
pub mod Streams
pub mod Views
