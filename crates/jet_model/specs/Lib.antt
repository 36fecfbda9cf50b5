pub mod Outcomes
pub mod Contents
pub mod Sources
pub mod Lengths
pub mod Report
pub mod Answer
pub mod Headline
