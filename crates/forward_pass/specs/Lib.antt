pub mod Received
pub mod Rest
pub mod Rows
pub mod Forward
pub mod Steps
