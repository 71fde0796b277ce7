pub mod Addresses
pub mod Laws
mod Early
mod Refusals
