pub mod Members
mod Gathering
mod Finding
mod Kept
mod Once
mod Each
