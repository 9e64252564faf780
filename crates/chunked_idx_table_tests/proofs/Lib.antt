pub mod Guards
pub mod Room
