pub mod NextRecord
pub mod Promises
