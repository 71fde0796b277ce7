pub mod Paths
pub mod Advance
pub mod Onward
mod Lanes
mod Resting
mod Dense
pub mod Scanning
