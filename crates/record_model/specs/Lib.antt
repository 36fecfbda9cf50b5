pub mod Recorded
pub mod States
pub mod Calls
pub mod Counts
