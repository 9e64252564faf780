pub mod Gathered
pub mod JoinedRows
pub mod Growing
pub mod Finished
