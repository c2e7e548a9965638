pub mod Options
pub mod Operands
pub mod Spanning
pub mod Composing
pub mod Examples
pub mod Signatures
