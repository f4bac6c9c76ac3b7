pub mod CutLaws
pub mod OrderLaws
