pub mod Readings
pub mod Unique
