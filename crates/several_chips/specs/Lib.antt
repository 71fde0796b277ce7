pub mod Samples
pub mod State
pub mod Members
pub mod Numbers
pub mod Calls
pub mod Promises
pub mod Step
