mod SumLaws
pub mod HistoryLaws
mod RuleLaws
mod StepLaws
mod CallLaws
mod PlaceLaws
mod CountingLaws
pub mod Crossing
