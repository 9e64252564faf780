pub mod Keys
pub mod Probed
pub mod AnswerTables
