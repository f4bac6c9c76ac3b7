pub mod ReadFitLaws
pub mod SlowTouchLaws
pub mod SlowRunLaws
pub mod SlowStandingLaws
pub mod SlowNameLaws
pub mod SlowStreamLaws
pub mod SlowStageLaws
pub mod SlowReadLaws
