pub mod AnyOf
pub mod Composing
pub mod Pieces
pub mod Adding
pub mod Sinks
pub mod Asking
pub mod Joining
mod Lists
mod Located
mod Worked
pub mod Cutting
