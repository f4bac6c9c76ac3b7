pub mod StandsLaws
pub mod JournalLaws
pub mod AskingLaws
pub mod RoundLaws
pub mod Crossing
