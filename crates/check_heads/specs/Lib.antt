pub mod Stores
pub mod Trees
pub mod Parts
pub mod Reads
