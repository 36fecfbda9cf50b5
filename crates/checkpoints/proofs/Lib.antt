mod Splitting
mod Holding
mod Rising
pub mod Writing
mod Untouched
mod Standing
mod Taking
