pub mod Placing
pub mod Rows
pub mod Loops
