pub mod Buffer
pub mod Bytes
pub mod Putting
pub mod Cases
pub mod Laws
pub mod Tables
