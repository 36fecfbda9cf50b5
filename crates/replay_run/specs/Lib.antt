pub mod Runs
pub mod Counters
pub mod Expects
