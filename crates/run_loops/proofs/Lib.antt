pub mod ForTests
pub mod ForHeads
