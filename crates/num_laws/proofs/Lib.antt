pub mod Orders
pub mod Comparisons
pub mod Halves
pub mod Units
pub mod Parts
pub mod Sums
