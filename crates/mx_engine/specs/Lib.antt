pub mod SelectFaults
pub mod Standing
pub mod StatementViews
pub mod Steps
pub mod Views
