pub mod Cells
pub mod Spans
pub mod Steps
pub mod Signatures
pub mod Closed
pub mod Holds
pub mod Windows
