pub mod Changes
pub mod Fair
