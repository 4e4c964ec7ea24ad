pub mod Agrees
pub mod Unique
