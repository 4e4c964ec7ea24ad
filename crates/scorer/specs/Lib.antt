pub mod Scorer
