pub mod Together
pub mod Inverses
pub mod Placing
pub mod Generators
