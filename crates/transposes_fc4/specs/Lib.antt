pub mod Fc4
pub mod Fc4LoopLaws
pub mod Runs
pub mod Pairs
pub mod Rows
pub mod Loops
pub mod Swaps
pub mod Guard
