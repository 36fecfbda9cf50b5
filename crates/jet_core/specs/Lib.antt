pub mod Joints
pub mod Turns
pub mod Lines
pub mod Streams
pub mod Left
