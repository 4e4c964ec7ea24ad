pub mod Powers
pub mod Unique
