pub mod Fills
pub mod Isotherms
pub mod Unique
