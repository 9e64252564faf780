pub mod Keyed
pub mod Merged
pub mod History
