pub mod Replies
pub mod Resumed
pub mod Kept
pub mod Marks
pub mod Rows
