mod EndLemmas
pub mod StackLemmas
pub mod TurnLemmas
pub mod CompletionLemmas
pub mod RunLemmas
pub mod NumberLemmas
pub mod UseLemmas
pub mod BreakLemmas
