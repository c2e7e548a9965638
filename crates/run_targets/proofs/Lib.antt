pub mod TargetStores
pub mod Elements
pub mod References
pub mod StoreSteps
pub mod TargetWords
