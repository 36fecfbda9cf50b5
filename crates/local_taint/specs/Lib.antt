pub mod Following
pub mod Ahead
