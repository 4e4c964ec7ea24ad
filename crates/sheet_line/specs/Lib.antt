pub mod Cylinder
pub mod Record
pub mod Line
