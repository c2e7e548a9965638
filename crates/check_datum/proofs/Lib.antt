pub mod Words
pub mod OneDeclaration
pub mod Contents
pub mod Scalars
