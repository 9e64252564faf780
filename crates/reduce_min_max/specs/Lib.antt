pub mod Best
pub mod BestLaws
pub mod Truths
pub mod TruthLaws
