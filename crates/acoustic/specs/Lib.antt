pub mod Acoustic
pub mod Laws
pub mod Calls
pub mod Fourth
pub mod Numbered
pub mod Meaning
pub mod Still
pub mod Instances
