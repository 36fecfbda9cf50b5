pub mod InputChannels
pub mod Told
pub mod Apart
pub mod Small
mod Worked
mod MovedRanges
