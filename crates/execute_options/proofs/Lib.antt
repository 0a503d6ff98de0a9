mod GivenLemmas
mod OptionLineLemmas
