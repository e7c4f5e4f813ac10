pub mod Symmetrize
pub mod Loops
pub mod FullLoops
pub mod Mean
pub mod Later
pub mod Spread
pub mod Coinciding
pub mod Repeated
