pub mod Summaries
pub mod Ahead
pub mod Slots
pub mod Placed
