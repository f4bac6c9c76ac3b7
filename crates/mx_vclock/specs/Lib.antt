pub mod Places
pub mod Spelling
pub mod Text
pub mod Vclocks
