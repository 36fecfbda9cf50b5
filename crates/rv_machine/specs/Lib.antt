pub mod Hart
pub mod Effects
pub mod Start
pub mod Saved
pub mod Decoded
pub mod Running
