pub mod Fc3
pub mod Fc4
pub mod Slab
pub mod SlabLaws
pub mod Fc2
pub mod Fc2Laws
