pub mod Numbers
pub mod Apart
pub mod Columns
pub mod Fronts
pub mod Decoded
