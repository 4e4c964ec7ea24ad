pub mod Densities
pub mod Bounds
pub mod Signs
pub mod Mosts
pub mod Sums
pub mod Unique
