pub mod PieceLaws
pub mod SessionLaws
pub mod ReplyLaws
pub mod LinkLaws
