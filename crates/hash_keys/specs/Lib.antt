pub mod Keys
pub mod Hashed
pub mod Views
pub mod Dealt
pub mod Gathered
pub mod Rows
