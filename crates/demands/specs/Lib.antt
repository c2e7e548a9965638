-- The demands as statements, with their own words as comments. To read: Demands, and Fakes for demand 2; the words that Demands is written in are in Vocabulary.
pub mod Vocabulary
pub mod Demands
pub mod Aborts
pub mod Fakes
pub mod LoopNames
