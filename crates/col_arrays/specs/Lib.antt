pub mod Bits
pub mod Items
pub mod Buffer
pub mod Wraps
