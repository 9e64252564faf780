pub mod Order
pub mod Wrapped
pub mod Merged
pub mod Folded
pub mod Moved
