pub mod Statement
pub mod Answer
pub mod Lookup
pub mod Select
pub mod Write
