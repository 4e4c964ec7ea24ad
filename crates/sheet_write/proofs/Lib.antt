pub mod Writings
pub mod Pairs
pub mod Backward
pub mod Unique
