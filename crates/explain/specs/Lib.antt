pub mod Explain
pub mod Laws
pub mod Meaning
pub mod Guarded
pub mod Samples
