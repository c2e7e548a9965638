pub mod Actions
pub mod Agreeing
pub mod Current
pub mod Elsewhere
pub mod Living
pub mod States
pub mod Hops
pub mod Deciding
