pub mod AnyFirstLasts
pub mod AnyFirsts
pub mod AnyLasts
