pub mod Reducing
pub mod Zips
pub mod Nulls
pub mod Masked
