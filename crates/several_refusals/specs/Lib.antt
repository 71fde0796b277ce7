pub mod Ranges
pub mod Counting
pub mod Group
