pub mod Orders
pub mod Folds
pub mod Examples
