pub mod Crystal
pub mod Laws
pub mod SecondImages
pub mod ThirdImages
pub mod FourthImages
