pub mod AndThen
pub mod Lengths
pub mod Files
mod Bytes
pub mod Headline
mod Recordings
mod Guests
mod Reports
mod Divergences
mod Commands
pub mod Received
