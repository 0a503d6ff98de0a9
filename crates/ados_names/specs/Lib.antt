pub mod Names
pub mod Path
pub mod Lengths
