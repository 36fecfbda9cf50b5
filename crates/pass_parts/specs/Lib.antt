pub mod Ends
pub mod Turns
pub mod Known
pub mod PassSummaries
pub mod Requests
pub mod Events
pub mod PartLaws
