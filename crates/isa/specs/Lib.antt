pub mod Words
pub mod Encodings
pub mod Machine
pub mod Calls
pub mod ZeroRegister
pub mod Operands
