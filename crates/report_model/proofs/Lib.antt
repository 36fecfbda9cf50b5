pub mod RowLemmas
pub mod PointRows
pub mod Own
pub mod Located
pub mod Due
pub mod Each
mod Examples
mod NeededExamples
pub mod Members
pub mod Turned
pub mod Needed
