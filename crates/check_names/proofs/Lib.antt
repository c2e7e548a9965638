pub mod Answering
pub mod Spellings
pub mod Tables
pub mod Unique
pub mod Shields
pub mod Reading
pub mod Growing
