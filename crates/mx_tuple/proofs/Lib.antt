pub mod FieldLaws
pub mod CheckLaws
