pub mod First
pub mod Expressions
pub mod Statements
pub mod Declarations
pub mod Routines
