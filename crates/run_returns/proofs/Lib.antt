pub mod ReturnSteps
