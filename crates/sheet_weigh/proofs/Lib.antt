pub mod Weights
pub mod Weighings
pub mod Markings
pub mod Knowns
pub mod Unique
