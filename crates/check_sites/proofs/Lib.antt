pub mod Words
pub mod TakenNames
pub mod TwoSites
pub mod WordsKept
pub mod DataChain
