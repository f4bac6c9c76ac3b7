pub mod OpenLaws
pub mod CarriedLaws
pub mod CommitLaws
pub mod TableLaws
pub mod WorkLaws
pub mod MoveLaws
pub mod BeginLaws
pub mod EndLaws
