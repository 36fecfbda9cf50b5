pub mod Numbers
pub mod Meaning
mod Grown
mod Bits
mod Notes
mod Bytes
mod Targets
mod Flows
mod Received
pub mod Clean
pub mod Alike
mod Accesses
