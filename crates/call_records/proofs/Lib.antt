pub mod Records
pub mod Stores
pub mod Depths
pub mod Refusals
