pub mod Form
mod Places
mod Walk
mod Parts
pub mod Numbers
mod Loops
mod Answer
