pub mod Checks
pub mod Walks
pub mod Passes
