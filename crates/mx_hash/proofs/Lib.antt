mod OrderLaws
pub mod TableLaws
