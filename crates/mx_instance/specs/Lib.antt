pub mod Entries
pub mod Standing
pub mod Passes
pub mod JournalTurns
pub mod Asking
pub mod Rounds
pub mod Reading
