pub mod Touched
pub mod Calls
pub mod Meaning
