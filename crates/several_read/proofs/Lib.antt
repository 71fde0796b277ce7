mod Resume
mod Turns
mod Reached
