pub mod Backward
pub mod Needs
