pub mod ThreeRows
pub mod Sums
pub mod Figures
pub mod Totals
pub mod Failures
pub mod Unique
