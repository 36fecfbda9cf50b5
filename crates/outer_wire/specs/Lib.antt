pub mod Wires
pub mod Sending
pub mod Talks
pub mod Machine
pub mod Answering
