pub mod Path
pub mod Progress
pub mod Scan
