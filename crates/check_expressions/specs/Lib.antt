pub mod Judgements
pub mod Known
pub mod Owned
pub mod Answers
pub mod Parts
