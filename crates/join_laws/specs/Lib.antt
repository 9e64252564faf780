pub mod Locals
pub mod Steps
pub mod Deals
pub mod Pairs
pub mod Inserts
pub mod Outer
pub mod Partitions
