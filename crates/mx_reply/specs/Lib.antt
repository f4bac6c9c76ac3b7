pub mod Greeting
pub mod Replies
