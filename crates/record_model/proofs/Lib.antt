pub mod Calls
pub mod Pushes
pub mod Fronts
pub mod Runs
pub mod Unique
pub mod Values
pub mod Sound
pub mod Beginning
mod States
pub mod RecordedRuns
mod Examples
