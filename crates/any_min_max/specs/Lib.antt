pub mod KeptBests
pub mod AnyMins
pub mod AnyMaxes
