pub mod Entry
pub mod Mend
pub mod Outcome
