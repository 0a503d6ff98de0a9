pub mod Parts
pub mod Faults
pub mod Hosts
pub mod Answers
pub mod Breaks
pub mod Recordings
