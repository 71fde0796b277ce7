mod Stretches
mod Listed
mod Data
mod Rows
mod Walk
mod Answer
pub mod Fewest
pub mod Writes
pub mod ReadAgain
