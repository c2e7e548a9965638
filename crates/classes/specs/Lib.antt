-- A whole class in one call. To read: Classes, what it is; Lesson, what holds of every class; Rows, classes worked out by hand.
pub mod Classes
pub mod Computing
pub mod Rows
pub mod Lesson
pub mod Instances
