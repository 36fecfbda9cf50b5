pub mod Items
pub mod Pushes
pub mod Pops
pub mod Seats
pub mod Steps
pub mod Rests
pub mod Delivery
