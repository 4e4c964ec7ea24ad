pub mod Cylinders
pub mod Printed
pub mod Lines
pub mod Unique
