pub mod Parts
pub mod Laws
pub mod AppendLaws
pub mod Walked
pub mod Desks
pub mod AppendSamples
