pub mod Bits
pub mod Buffer
pub mod Bytes
pub mod Tests
