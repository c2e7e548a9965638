pub mod Bytes
pub mod Values
pub mod Strings
pub mod Signs
pub mod Gaps
pub mod Starts
pub mod Bounds
pub mod Unique
