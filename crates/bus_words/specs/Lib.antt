pub mod Words
pub mod Lanes
