pub mod Locations
pub mod Flows
pub mod Shuffles
pub mod Shapes
