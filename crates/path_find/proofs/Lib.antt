mod Paths
mod Tables
mod Apart
mod Steps
pub mod Origins
pub mod One
pub mod Listed
mod Worked
mod Seeing
mod Ranges
mod Passing
mod Told
