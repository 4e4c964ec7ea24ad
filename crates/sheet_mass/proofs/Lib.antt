pub mod Masses
pub mod Unique
