pub mod Sizing
pub mod Answers
