pub mod RightLaws
pub mod RowLaws
