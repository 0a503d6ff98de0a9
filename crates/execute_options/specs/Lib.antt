pub mod Config
pub mod Given
pub mod Names
pub mod Numbers
pub mod OptionLines
