pub mod Tickets
pub mod Layouts
mod Lines
pub mod Whole
pub mod Popping
