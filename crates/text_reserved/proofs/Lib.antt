pub mod Ranges
pub mod Folds
pub mod Runs
pub mod Texts
pub mod Rows
pub mod Packs
pub mod Unique
