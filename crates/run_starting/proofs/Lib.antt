pub mod CellsWritten
pub mod DataWords
pub mod Fresh
