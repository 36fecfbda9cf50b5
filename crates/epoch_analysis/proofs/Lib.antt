pub mod Epochs
pub mod Runs
