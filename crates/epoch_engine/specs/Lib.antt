pub mod Collecting
pub mod Texts
