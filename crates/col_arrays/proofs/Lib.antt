pub mod BitLists
pub mod Packed
pub mod Writes
pub mod Words
pub mod Items
pub mod Offsets
pub mod Ranges
