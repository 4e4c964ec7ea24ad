pub mod Tables
pub mod Exponentials
pub mod Sayings
pub mod Decays
pub mod Lanes
pub mod Falls
pub mod Unique
pub mod Steps
