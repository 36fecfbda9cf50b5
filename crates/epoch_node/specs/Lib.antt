pub mod Cores
pub mod Keeping
pub mod Events
pub mod Nodes
pub mod Phases
