pub mod Checking
pub mod Serving
