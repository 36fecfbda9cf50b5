pub mod Epochs
pub mod Analyses
