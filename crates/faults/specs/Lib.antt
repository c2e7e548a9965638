pub mod First
pub mod Added
pub mod Parts
pub mod Left
