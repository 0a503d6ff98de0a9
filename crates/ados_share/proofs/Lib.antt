mod AccountLemmas
mod AroundLemmas
mod PathLemmas
mod KeyLemmas
