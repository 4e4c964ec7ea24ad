pub mod Root
pub mod Side
