pub mod Laws
pub mod Made
