mod DistinctRows
pub mod Whole
mod Tracked
