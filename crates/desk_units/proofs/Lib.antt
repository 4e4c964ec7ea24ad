pub mod Roundings
pub mod Digits
pub mod Samples
pub mod Unique
