pub mod Places
pub mod Quoted
pub mod Lines
pub mod Next
pub mod Tens
pub mod Room
