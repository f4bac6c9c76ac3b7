pub mod Jobs
pub mod Outboxes
pub mod Sessions
pub mod Returns
pub mod JobViews
