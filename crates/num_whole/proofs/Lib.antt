pub mod Wholes
pub mod Unique
