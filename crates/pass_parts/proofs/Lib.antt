pub mod Known
pub mod Counted
pub mod Events
pub mod Whole
