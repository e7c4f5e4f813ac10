pub mod GuardLaws
pub mod RowsLaws
