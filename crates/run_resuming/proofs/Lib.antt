pub mod NextStep
pub mod RetryTryNext
