pub mod Decimals
pub mod Parses
pub mod Fields
pub mod Places
pub mod Printed
pub mod Unique
