pub mod Choices
pub mod Raised
