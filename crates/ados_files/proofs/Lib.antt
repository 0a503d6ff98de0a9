pub mod Stays
pub mod CopyStays
pub mod RenameStays
pub mod DeleteStays
pub mod ShellsLemmas
mod RenameLemmas
pub mod DeviceLemmas
pub mod LevelLemmas
mod ShapeLemmas
mod DumpLemmas
mod LineLemmas
mod OrderLemmas
pub mod PlainLines
pub mod HitLemmas
pub mod HitLaws
pub mod PartLemmas
pub mod SourceLemmas
