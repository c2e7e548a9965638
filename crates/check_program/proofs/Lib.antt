pub mod ClosedSteps
pub mod DataChain
pub mod Orders
pub mod WalkStays
pub mod ProgramHeld
pub mod Examples
