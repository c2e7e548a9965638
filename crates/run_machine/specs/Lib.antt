pub mod Live
pub mod Machine
