pub mod Number
pub mod Working
