pub mod DirectoryLaws
pub mod GrowthLaws
pub mod WalkLaws
pub mod BeginLaws
pub mod OnceLaws
pub mod DamageLaws
pub mod ImageLaws
pub mod ReadLaws
