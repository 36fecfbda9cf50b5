pub mod Accesses
pub mod Stops
pub mod Moves
pub mod MoveLaws
pub mod Searches
pub mod Looks
