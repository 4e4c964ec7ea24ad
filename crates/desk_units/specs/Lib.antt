pub mod Units
pub mod Shown
