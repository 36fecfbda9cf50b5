pub mod Logs
pub mod Faults
pub mod Moved
pub mod Reading
pub mod Laws
