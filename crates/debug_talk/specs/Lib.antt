pub mod Debugging
pub mod Listening
