pub mod Entries
pub mod Output
pub mod Lists
pub mod Exports
pub mod Unique
