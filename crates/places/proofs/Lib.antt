pub mod PlacesLaws
pub mod AddressesLaws
pub mod MovesLaws
