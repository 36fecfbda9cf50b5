pub mod Terms
mod Unions
mod Keys
mod Leaves
mod Marks
mod Walking
mod Sorting
mod Covering
mod Blocks
mod Roots
mod Bounds
mod Noted
pub mod Keeping
