pub mod Asks
pub mod Links
pub mod Answers
pub mod Replying
