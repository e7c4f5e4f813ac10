pub mod Told
pub mod Drifts
