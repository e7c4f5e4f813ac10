pub mod Sums3x3
pub mod Lines
pub mod DriftLaws
pub mod OtherLaws
pub mod LegLaws
