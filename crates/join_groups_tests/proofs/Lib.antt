pub mod Fitting
pub mod Fresh
