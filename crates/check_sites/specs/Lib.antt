pub mod Sites
pub mod Walks
pub mod Parts
