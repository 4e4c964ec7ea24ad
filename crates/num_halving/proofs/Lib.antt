pub mod Halvings
pub mod Probes
pub mod Unique
