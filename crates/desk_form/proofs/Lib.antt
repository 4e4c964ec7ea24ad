pub mod Cuts
pub mod Wrongs
pub mod Turns
pub mod Named
pub mod Unique
