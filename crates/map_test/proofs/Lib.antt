pub mod PlaceKinds
pub mod Entries
pub mod Laws
