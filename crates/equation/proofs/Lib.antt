pub mod Curves
pub mod Laws
pub mod Unique
