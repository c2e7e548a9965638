pub mod Places
pub mod Loaded
pub mod Passes
pub mod LentStores
pub mod Signatures
pub mod RoutineWalk
pub mod NamesWalk
pub mod Unique
