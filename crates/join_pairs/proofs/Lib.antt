pub mod Named
pub mod Masks
pub mod Rows
