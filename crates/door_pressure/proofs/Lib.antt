pub mod Searches
pub mod Doors
pub mod Unique
