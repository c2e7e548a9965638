pub mod Climb
pub mod Operands
pub mod Places
