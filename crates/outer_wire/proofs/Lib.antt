pub mod History
mod Causes
mod Turns
mod Pieces
