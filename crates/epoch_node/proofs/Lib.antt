mod Acting
mod Counting
mod Stepping
mod NodeSteps
mod Alike
pub mod Led
