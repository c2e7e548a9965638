pub mod Numbers
pub mod Meanings
pub mod Promises
pub mod Scopes
