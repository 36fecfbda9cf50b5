pub mod FileWords
mod Parts
mod Ends
mod Examples
mod Appended
mod Registers
