pub mod RotateDelta
pub mod Rows
pub mod Guard
pub mod Meaning
