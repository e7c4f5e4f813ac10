pub mod RowSums
pub mod Values
pub mod Calls
pub mod RowLaws
pub mod Right
