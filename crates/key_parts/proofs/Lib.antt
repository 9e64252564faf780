pub mod Sketches
pub mod Partitions
pub mod Positions
