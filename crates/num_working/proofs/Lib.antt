pub mod Workings
pub mod Numbers
pub mod Unique
pub mod Cases
pub mod Sound
