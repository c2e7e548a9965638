pub mod Rewriting
pub mod Keeping
pub mod Writing
pub mod Unique
