pub mod Clean
pub mod Labels
pub mod Lanes
pub mod Marks
pub mod Memory
pub mod Notes
pub mod Places
pub mod Steps
