pub mod Term
pub mod Fallen
pub mod Readings
