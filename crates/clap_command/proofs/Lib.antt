mod Bools
mod NoFault
mod HelpRefused
mod Fit
mod ValueLemmas
pub mod Rows
pub mod Subcommands
pub mod Single
