mod Terms
pub mod Range
mod InARow
mod Tracked
