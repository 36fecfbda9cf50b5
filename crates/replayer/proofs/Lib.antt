mod Sequences
mod Comparing
mod Checking
mod Loops
mod PlainSteps
mod Passing
mod Standing
mod Watching
mod Parts
mod Stretches
mod Stepping
mod InARow
mod Leading
pub mod Told
mod Summaries
