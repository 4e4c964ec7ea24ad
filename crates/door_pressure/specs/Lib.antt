pub mod Search
pub mod PressureDoor
