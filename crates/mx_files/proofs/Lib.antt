pub mod NameLaws
mod DigitLaws
