pub mod Block
pub mod Block9
pub mod Permuted
pub mod Inside
