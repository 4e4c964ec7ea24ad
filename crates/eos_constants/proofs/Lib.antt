pub mod Bits
pub mod Exponents
pub mod Unique
