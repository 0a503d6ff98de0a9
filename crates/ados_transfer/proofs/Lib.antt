mod WordLemmas
mod WithinLemmas
mod VolumeLemmas
mod PathLemmas
