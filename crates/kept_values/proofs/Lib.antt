pub mod Masked
pub mod Types
