mod WorkedGuest
mod WorkedBench
pub mod Guests
pub mod SameNumbers
pub mod Outcomes
mod Answered
mod Generated
mod Zeros
