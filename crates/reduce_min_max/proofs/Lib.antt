pub mod Best
pub mod Kernel
pub mod Columns
pub mod Scanned
pub mod OptionalBits
pub mod TruthStates
