mod DeedsGathering
mod Driving
mod Pairs
mod Ran
mod TrailLemmas
