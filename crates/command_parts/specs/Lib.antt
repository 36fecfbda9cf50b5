pub mod Outcome
pub mod Views
pub mod Saying
