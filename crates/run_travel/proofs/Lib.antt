mod Meeting
mod Finding
mod Stopping
mod Accessing
mod Rows
mod Passing
mod Worked
