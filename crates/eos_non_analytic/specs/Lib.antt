pub mod Parts
pub mod Figures
