pub mod CodeLaws
pub mod MeanLaws
