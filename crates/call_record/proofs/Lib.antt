mod Windows
mod Counts
mod Shares
mod Calls
mod SoFar
mod Captured
