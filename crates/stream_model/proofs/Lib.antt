pub mod Growing
pub mod Counting
pub mod Meeting
mod Events
pub mod Passing
pub mod Moving
mod Holding
pub mod NeverStill
pub mod Progress
pub mod Running
pub mod Moves
pub mod NodeWork
pub mod Work
mod Worked
