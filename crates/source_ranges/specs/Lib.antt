pub mod Ranges
pub mod RangeLaws
pub mod Kept
