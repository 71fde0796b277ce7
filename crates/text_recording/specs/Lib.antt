pub mod Bounds
pub mod Ends
pub mod Families
pub mod Glance
pub mod Sizes
pub mod Tally
