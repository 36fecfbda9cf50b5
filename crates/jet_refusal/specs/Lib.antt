pub mod Lines
pub mod Refusals
pub mod Causes
pub mod Faults
