pub mod Drawn
pub mod Rows
pub mod Counted
pub mod Short
pub mod Accepted
pub mod Words
