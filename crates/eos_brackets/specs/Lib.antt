pub mod Derivative
pub mod Bracket
