pub mod Places
pub mod Readings
pub mod Cases
pub mod Asks
pub mod Ruled
pub mod Unique
pub mod Examples
