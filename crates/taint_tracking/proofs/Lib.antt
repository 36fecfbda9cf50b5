mod Notes
mod Between
mod Steps
mod Following
mod InARow
