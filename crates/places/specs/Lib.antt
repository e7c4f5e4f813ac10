pub mod Places
pub mod Addresses
pub mod ReadOuts
pub mod Permutations
pub mod Moves
pub mod WholeLaws
pub mod Values
