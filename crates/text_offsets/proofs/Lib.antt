pub mod WordCount
pub mod Unique
