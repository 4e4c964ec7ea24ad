pub mod Exponential
pub mod Decay
pub mod Lockstep
