pub mod Fc3
pub mod Fc3Loops
pub mod Nines
