pub mod Entries
pub mod Tapes
pub mod Sources
pub mod Steps
pub mod Runs
pub mod Captures
