pub mod TakingLaws
pub mod OpenLaws
pub mod RecoveryLaws
pub mod WritingLaws
pub mod StoreLaws
pub mod AgainLaws
