pub mod StringCharacters
pub mod Inputs
pub mod Lines
pub mod OneLine
pub mod TPWriteNumber
pub mod TPReadNum
