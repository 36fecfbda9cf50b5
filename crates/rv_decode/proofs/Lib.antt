mod Immediates
mod Parts
mod Written
pub mod Read
