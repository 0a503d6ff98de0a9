mod BindingLemmas
mod BitLemmas
mod BreakLemmas
mod BrokenLemmas
mod CarryingLemmas
mod DueLemmas
mod FillLemmas
pub mod FirstLemmas
mod LawLemmas
mod MemoryLemmas
mod NewShellLemmas
pub mod OpenedLemmas
mod StepLemmas
mod AnswerLemmas
mod TakenLemmas
mod UseLemmas
