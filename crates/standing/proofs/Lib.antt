pub mod Laws
pub mod EndLaws
pub mod AddedLaws
pub mod RetireLaws
pub mod Samples
pub mod StepsLaws
pub mod FormerLaws
pub mod Replacers
