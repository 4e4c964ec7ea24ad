pub mod Standings
pub mod Named
pub mod Firsts
pub mod Unique
