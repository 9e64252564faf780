pub mod Replies
pub mod Tables
pub mod Inserts
pub mod Probes
pub mod Resumed
pub mod Words
