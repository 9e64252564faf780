pub mod Filtered
pub mod Places
pub mod Words
pub mod Best
