pub mod Held
pub mod Gauge
