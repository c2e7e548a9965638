pub mod Layout
pub mod Loads
