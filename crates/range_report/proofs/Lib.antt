pub mod Longest
mod Counted
pub mod Texts
mod Worked
mod Rows
mod MovedLines
