pub mod Reading
pub mod ScanPort
pub mod Promises
pub mod Reach
