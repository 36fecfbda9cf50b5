pub mod Lists
pub mod Sums
pub mod KeepsRule
pub mod Keeping
pub mod FillOrder
pub mod Joining
pub mod Order
