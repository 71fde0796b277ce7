pub mod BanksAfter
pub mod Records
pub mod Promises
pub mod Slow
