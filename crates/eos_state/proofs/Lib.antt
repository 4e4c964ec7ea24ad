pub mod States
pub mod Unique
