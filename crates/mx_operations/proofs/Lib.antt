mod OperandLaws
pub mod RowLaws
