pub mod Blocks
pub mod Symmetrize
pub mod Loops
pub mod Mean24
pub mod Mean
pub mod Spread
