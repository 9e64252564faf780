pub mod Cuts
pub mod MorselRows
pub mod Fronts
pub mod Mapped
pub mod Listed
pub mod Morsels
pub mod Parts
