pub mod Hashes
pub mod Partitions
pub mod Sketches
pub mod Positions
