pub mod ToldLaws
pub mod MomentLaws
pub mod DiskLaws
pub mod FairLaws
pub mod OtherLaws
pub mod ContentLaws
