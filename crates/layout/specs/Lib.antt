pub mod Rules
pub mod Answers
pub mod Broken
pub mod Endings
pub mod Parts
pub mod Kinds
pub mod Types
pub mod Named
