pub mod Entries
pub mod Following
pub mod Beginning
pub mod Unique
