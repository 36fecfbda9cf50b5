pub mod Streams
pub mod Passes
pub mod Schedules
pub mod StreamLaws
pub mod PassLaws
pub mod Work
pub mod ScheduleLaws
