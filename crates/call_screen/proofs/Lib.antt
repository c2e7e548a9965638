pub mod Lines
pub mod Reading
pub mod Showing
pub mod Screens
