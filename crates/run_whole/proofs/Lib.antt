pub mod RunBegins
pub mod Walking
pub mod RunEnds
pub mod RunAborted
pub mod RunTold
pub mod Unique
