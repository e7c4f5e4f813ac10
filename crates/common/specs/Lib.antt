pub mod Whole
pub mod NearestWhole
pub mod Root
pub mod RootLaws
pub mod NearestRoot
pub mod Laws
pub mod Sheets
