pub mod Callers
pub mod Unique
