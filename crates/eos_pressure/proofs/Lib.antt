pub mod Pressures
pub mod Unique
