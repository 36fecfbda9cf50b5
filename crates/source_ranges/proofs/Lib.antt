pub mod Longest
pub mod Kept
pub mod Worked
