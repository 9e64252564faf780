mod Pairs
mod Entered
mod FirstRows
mod States
mod Members
mod Counts
mod Sources
mod Fits
mod Calls
mod Takes
mod MorselFits
mod Merges
mod Few
mod Ordered
mod News
pub mod History
pub mod Fresh
pub mod Ranges
pub mod End
pub mod Tuples
