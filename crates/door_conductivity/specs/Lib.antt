pub mod Conducted
