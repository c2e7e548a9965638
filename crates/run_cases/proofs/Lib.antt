pub mod TestValues
pub mod TestSteps
