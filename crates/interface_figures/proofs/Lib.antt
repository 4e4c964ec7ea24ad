pub mod Handed
pub mod Callers
pub mod Unique
