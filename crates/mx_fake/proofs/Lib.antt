mod CrashLaws
mod DirLaws
mod FileLaws
mod Prefixes
mod TableLaws
mod PassedLaws
