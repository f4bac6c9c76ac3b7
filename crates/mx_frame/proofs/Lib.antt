pub mod SizeLaws
pub mod SpelledLaws
pub mod FrameLaws
