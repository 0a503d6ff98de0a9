pub mod Blocks
pub mod Heads
pub mod Jumps
pub mod Lines
pub mod Phrases
pub mod Skips
pub mod Tables
