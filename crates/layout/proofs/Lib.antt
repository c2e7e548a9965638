pub mod Typing
pub mod RuleNumbers
pub mod EndingNumbers
