pub mod CopiesLaws
pub mod GuardLaws
