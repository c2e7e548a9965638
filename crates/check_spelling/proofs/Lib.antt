pub mod Letters
pub mod Fronts
pub mod Hashing
pub mod ProtectedNames
