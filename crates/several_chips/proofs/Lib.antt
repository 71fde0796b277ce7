pub mod Kept
pub mod Bytes
mod Moving
mod Putting
mod Still
mod Turning
mod Within
pub mod Memory
pub mod SeveralTests
pub mod Listed
pub mod Samples
pub mod Records
