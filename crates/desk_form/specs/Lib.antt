pub mod Wrong
pub mod Stop
