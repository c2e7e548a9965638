pub mod Around
pub mod Answers
