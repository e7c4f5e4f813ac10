pub mod Grid
pub mod ExactLaws
pub mod Sums
pub mod Edits
pub mod GridTestLaws
pub mod Samples
