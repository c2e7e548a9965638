pub mod Terms
pub mod ConstantsWorth
pub mod NumbersHeld
