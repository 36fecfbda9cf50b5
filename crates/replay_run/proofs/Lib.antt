pub mod Steps
mod Counting
mod Answering
mod Ranges
