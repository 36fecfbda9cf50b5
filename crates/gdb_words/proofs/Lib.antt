mod Taken
mod Examples
