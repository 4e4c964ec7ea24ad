pub mod Points
pub mod Counts
pub mod Readings
pub mod Unique
