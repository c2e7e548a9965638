pub mod ChoiceSteps
pub mod Conditions
