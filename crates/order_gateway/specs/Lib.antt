pub mod Guest
pub mod Input
pub mod Workload
pub mod Lines
pub mod Answer
pub mod Laws
pub mod StoppedClock
pub mod Recordings
