pub mod Unique
pub mod Rows
