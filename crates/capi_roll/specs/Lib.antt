pub mod Roll
pub mod Told
