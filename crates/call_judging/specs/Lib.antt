pub mod Calls
pub mod Carries
