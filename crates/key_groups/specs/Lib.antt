pub mod Groups
pub mod Taken
pub mod Kept
pub mod Dealt
