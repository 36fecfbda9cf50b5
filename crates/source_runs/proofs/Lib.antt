pub mod Bytes
mod Joined
