pub mod Causes
mod Examples
