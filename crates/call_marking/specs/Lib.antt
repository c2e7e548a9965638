pub mod Marks
pub mod Carries
