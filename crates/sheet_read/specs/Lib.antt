pub mod Form
pub mod Padded
pub mod Sheet
