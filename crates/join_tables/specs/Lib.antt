pub mod Tables
pub mod Probing
pub mod Changed
