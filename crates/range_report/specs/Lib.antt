pub mod Runs
pub mod Text
pub mod RunLaws
pub mod Channels
pub mod OpenRuns
pub mod Steps
pub mod Whole
