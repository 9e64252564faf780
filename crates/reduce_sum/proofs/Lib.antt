pub mod Kept
pub mod Totals
pub mod Entered
