pub mod Run
pub mod Comparison
pub mod Firsts
pub mod Fits
pub mod Summary
pub mod Offsets
pub mod Received
