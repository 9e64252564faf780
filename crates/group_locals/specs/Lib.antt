pub mod Rows
pub mod Locals
pub mod Columns
pub mod Merging
pub mod Orders
pub mod History
