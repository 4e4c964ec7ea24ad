pub mod Derivatives
pub mod Unique
