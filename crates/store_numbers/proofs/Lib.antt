pub mod Whole
pub mod Outcomes
pub mod Complement
pub mod Within
pub mod Unique
pub mod Instances
