pub mod Roots
pub mod Searchables
pub mod Unique
