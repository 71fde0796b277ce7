pub mod Bound
pub mod Counting
pub mod Laws
pub mod Running
mod Steps
mod Bytes
mod Loop
mod Ending
