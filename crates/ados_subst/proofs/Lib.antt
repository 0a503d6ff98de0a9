mod LineLemmas
mod NextLemmas
mod ReferenceLemmas
mod ScriptLemmas
mod SlotLemmas
mod FaultLemmas
