pub mod Pages
pub mod Touched
pub mod Points
pub mod Taking
