mod PassingLaws
mod TurnLaws
mod DurabilityLaws
pub mod ReplayLaws
mod FileLaws
pub mod LeavingLaws
mod AppliedLaws
mod FirstRowLaws
