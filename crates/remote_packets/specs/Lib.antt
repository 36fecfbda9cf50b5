pub mod Numbers
pub mod Packets
