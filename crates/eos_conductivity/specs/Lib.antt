pub mod Conductivity
pub mod Readings
