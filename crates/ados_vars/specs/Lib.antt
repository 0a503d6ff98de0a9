pub mod Global
pub mod Locals
pub mod Vars
