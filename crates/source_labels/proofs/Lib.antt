mod Kept
mod Sources
pub mod Origins
pub mod Runs
