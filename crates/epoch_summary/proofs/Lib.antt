pub mod Named
mod Alike
mod Held
mod Slotting
mod Placing
