pub mod CommitLaws
pub mod RunRows
pub mod ToldLaws
pub mod OverlapLasting
pub mod AloneSerial
pub mod StreamNames
pub mod StreamBegins
pub mod StreamCounts
mod RowOwnerLaws
mod SerialOrderLaws
pub mod OwnCommitLaws
mod MemoryTold
