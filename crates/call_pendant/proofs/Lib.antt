pub mod TwoCalls
pub mod Unique
