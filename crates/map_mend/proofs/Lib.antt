mod Behind
mod MendedEntry
mod Listed
mod Pass
mod Halfway
pub mod Laws
mod Accepted
mod Restored
pub mod Outcome
