pub mod Exponent
pub mod Constant
pub mod Reduced
