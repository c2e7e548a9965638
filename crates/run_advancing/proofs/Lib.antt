pub mod OneStep
pub mod RunStops
pub mod Answers
pub mod NotMade
pub mod Advanced
