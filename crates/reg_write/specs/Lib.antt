pub mod Effect
pub mod Write
pub mod Rise
