mod OneMore
mod Messages
mod Events
pub mod Reaching
