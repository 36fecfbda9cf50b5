pub mod Labels
pub mod Needs
pub mod Pieces
pub mod PieceLaws
pub mod Joins
pub mod Runs
pub mod First
pub mod UpTo
