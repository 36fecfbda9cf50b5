pub mod Alike
mod Order
mod Cuts
mod Reaching
mod Waiting
mod Putting
