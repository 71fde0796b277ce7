pub mod Laws
pub mod Taking
pub mod SlowCount
pub mod Arming
