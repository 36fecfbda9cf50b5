pub mod Composing
pub mod Fitting
mod Read
pub mod Statuses
