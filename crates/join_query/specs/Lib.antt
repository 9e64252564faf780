pub use Rattle.reduce_model.specs.Folds
pub use Rattle.reduce_model.specs.Orders
pub mod Names
