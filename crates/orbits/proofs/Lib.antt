pub mod Scatter
pub mod AnyOrder
pub mod SymmetricLaws
pub mod SpreadLaws
pub mod SymmetrizesLaws
pub mod GroupLoopLaws
pub mod MeanLaws
