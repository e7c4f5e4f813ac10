pub mod FullSet
pub mod ReadOut
pub mod Copies
pub mod Guard
pub mod Blocks
