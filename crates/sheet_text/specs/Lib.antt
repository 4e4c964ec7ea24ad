pub mod Parse
pub mod Decimal
pub mod Field
pub mod Place
