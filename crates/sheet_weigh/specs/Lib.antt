pub mod Weighing
pub mod Sheet
