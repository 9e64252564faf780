mod Answered
mod Told
mod Worded
