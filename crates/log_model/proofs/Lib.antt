pub mod Words
pub mod Moved
pub mod Records
pub mod Faults
pub mod Items
mod Results
pub mod Left
mod Again
mod Front
mod Headers
pub mod Channels
pub mod Reading
pub mod Soundness
pub mod Unique
pub mod Texts
mod Examples
pub mod Ends
