pub mod Passing
pub mod PassingRoom
pub mod MemoryWires
