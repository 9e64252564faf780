pub mod Ranges
pub mod Dealt
pub mod Gathered
pub mod Hashed
pub mod Spelled
