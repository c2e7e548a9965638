pub mod Lengths
pub mod Refusing
pub mod Copies
pub mod Modules
pub mod Whole
pub mod Unique
