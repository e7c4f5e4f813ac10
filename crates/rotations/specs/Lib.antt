pub mod Rotation
pub mod Laws
