pub mod Fronts
pub mod Hash
