pub mod Distinct
pub mod Pairs
pub mod Places
pub mod Reaching
pub mod Own
pub mod Waiting
