pub mod Agreement
pub mod Track
pub mod Transfers
pub mod Sizes
pub mod Firsts
pub mod Offsets
pub mod Received
