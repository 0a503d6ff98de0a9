pub mod PathLemmas
pub mod PieceLemmas
