pub mod Report
pub mod Loops
pub mod Floats
pub mod Seen
pub mod Meaning
pub mod Sets
