pub mod BlockLemmas
pub mod EntryLemmas
pub mod LabelLemmas
mod LineLemmas
pub mod ListLemmas
pub mod SkipLemmas
pub mod TableLemmas
mod PhraseLemmas
