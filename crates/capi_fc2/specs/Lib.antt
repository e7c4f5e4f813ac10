pub mod Drift
pub mod Replace
