pub mod Orders
pub mod Answered
pub mod Lines
mod Worked
mod Looking
mod Counted
mod Noted
mod Followed
mod Located
