pub mod Between
pub mod Deadline
pub mod Ends
pub mod ErrorCodes
pub mod Pace
pub mod Playing
pub mod Prompting
pub mod Status
