pub mod Fields
pub mod Records
pub mod Writers
pub mod Errors
pub mod Laws
pub mod Examples
