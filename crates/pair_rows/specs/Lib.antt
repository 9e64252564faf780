pub mod Gathered
pub mod Growing
