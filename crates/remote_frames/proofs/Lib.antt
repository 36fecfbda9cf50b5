mod Sums
mod Parts
mod Steps
mod Among
mod Examples
