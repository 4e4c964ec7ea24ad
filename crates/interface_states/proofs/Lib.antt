pub mod Fitting
pub mod Places
pub mod Callers
pub mod Unique
