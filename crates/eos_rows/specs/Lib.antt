pub mod Row
pub mod Column
