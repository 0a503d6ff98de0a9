pub mod GatheringLemmas
pub mod InUseLemmas
pub mod ShellsLemmas
pub mod DeviceLemmas
mod PhraseLemmas
