pub mod Power
