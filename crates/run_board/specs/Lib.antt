pub mod Turns
pub mod Tasks
pub mod Views
pub mod Rule
pub mod Workers
