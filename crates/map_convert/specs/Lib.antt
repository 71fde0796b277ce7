pub mod Convert
pub mod Made
