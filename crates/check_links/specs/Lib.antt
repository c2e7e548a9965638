pub mod Resolved
pub mod Raw
