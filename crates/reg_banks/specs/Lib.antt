pub mod Banks
pub mod Read
