pub mod Layouts
pub mod Lines
pub mod Gathering
pub mod DoneLines
