pub mod Taken
pub mod Errors
