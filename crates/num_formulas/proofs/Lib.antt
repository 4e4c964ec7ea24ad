pub mod Formulas
pub mod Readings
pub mod Tests
