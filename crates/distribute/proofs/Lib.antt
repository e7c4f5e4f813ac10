pub mod LoopLaws
pub mod Meaning
