pub mod Lanes
pub mod Samples
pub mod Seconds
