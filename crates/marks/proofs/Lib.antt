pub mod Parting
pub mod Meeting
pub mod Counting
pub mod Listings
pub mod MoreListed
pub mod Touching
pub mod Instances
