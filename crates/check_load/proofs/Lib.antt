pub mod Bounds
pub mod Chains
pub mod WordStored
pub mod NextWord
pub mod Progress
pub mod Results
pub mod Unique
