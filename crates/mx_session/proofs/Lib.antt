pub mod OutboxLaws
pub mod JobLaws
pub mod NextLaws
