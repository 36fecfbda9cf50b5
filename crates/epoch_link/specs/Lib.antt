pub mod Capacity
pub mod Link
pub mod ListLink
pub mod Words
pub mod Ring
pub mod RingLaws
pub mod Ends
pub mod Kept
