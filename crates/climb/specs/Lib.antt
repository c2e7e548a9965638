pub mod Rise
pub mod Places
