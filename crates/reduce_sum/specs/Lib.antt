pub mod Sums
pub mod AnySums
