pub use Rattle.join_model.specs.Filtered
pub mod Kernels
