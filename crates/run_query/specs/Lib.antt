pub mod Answers
pub mod Crossings
pub mod Checking
pub mod Parts
