pub mod Frames
pub mod Calls
pub mod Fewest
pub mod Rows
