pub mod Near
pub mod ToldLaws
pub mod Reach
pub mod Slabs
