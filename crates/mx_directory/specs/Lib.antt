pub mod Directories
pub mod DamageText
pub mod Survival
