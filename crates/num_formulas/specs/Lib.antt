pub mod Formula
pub mod Readings
