mod CutTimes
pub mod Numbered
pub mod Shrinking
