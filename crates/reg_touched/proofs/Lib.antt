mod Word
mod Row
mod Words
mod Answer
pub mod Meaning
