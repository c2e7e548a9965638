pub mod Cases
pub mod CallsDropped
