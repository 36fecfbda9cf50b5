pub mod Kept
pub mod Gathered
