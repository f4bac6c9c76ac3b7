pub mod Order
pub mod Gate
pub mod Replies
pub mod ReplyStream
pub mod Serializability
