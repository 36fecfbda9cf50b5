pub mod Beginnings
pub mod Aheads
pub mod Found
