mod Ranges
mod Taken
mod Examples
