pub mod Bases
pub mod Names
pub mod Lines
pub mod Acts
