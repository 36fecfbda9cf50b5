pub mod Accesses
pub mod Registers
