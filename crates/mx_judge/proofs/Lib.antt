pub mod TargetLaws
pub mod NotedFreeLaws
pub mod MadeLaws
pub mod EntryStageLaws
pub mod PlaceLaws
pub mod InstallLaws
