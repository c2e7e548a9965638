pub mod Numbers
pub mod Operators
pub mod Operands
pub mod Fusing
pub mod Places
pub mod Steps
pub mod Unique
