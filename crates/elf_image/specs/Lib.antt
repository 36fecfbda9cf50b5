pub mod Faults
pub mod Layout
