pub mod Placing
mod Doing
mod Known
mod Rows
