pub mod CallLaws
pub mod MakeLaws
pub mod PackLaws
pub mod BlockLaws
pub mod WrittenLaws
pub mod CrashLaws
