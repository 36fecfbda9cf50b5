mod Needs
mod Walks
mod Counting
mod Lists
mod Starts
mod Counts
mod Backing
pub mod Reaching
