pub mod BlockLaws
pub mod FileLaws
mod HeaderLaws
mod LastLaws
mod LineLaws
pub mod OneLaws
mod PlaceLaws
mod PlainLaws
mod RegisterLaws
mod SplitLaws
mod TableLaws
mod ToldLaws
mod ValueLaws
pub mod ReadingLaws
