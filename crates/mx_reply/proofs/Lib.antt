pub mod GreetingLaws
pub mod ReplyLaws
