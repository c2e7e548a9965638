pub mod Orders
pub mod Taken
pub mod Singles
pub mod Lessons
pub mod Rows
pub mod Instances
