pub mod Positions
pub mod Inverses
pub mod Directions
