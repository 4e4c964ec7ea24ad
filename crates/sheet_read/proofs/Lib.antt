pub mod Paddings
pub mod Turns
pub mod Inverse
pub mod Unique
