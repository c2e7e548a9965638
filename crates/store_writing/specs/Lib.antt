pub mod Promises
pub mod Chains
