pub mod Writing
pub mod Pairs
