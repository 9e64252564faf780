pub mod Kept
pub mod NullStates
pub mod Bits
