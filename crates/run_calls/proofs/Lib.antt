pub mod ArgumentsPassed
pub mod CallEntered
pub mod Called
pub mod CallSteps
pub mod CallTargets
