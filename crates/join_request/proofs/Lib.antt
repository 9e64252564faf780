mod Bytes
mod Pairs
mod Cuts
mod Ranges
mod Texts
mod Rows
mod Columns
