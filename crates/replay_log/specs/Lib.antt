pub mod Logs
pub mod Answers
pub mod Tags
pub mod Records
pub mod Header
