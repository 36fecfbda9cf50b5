mod Numbers
mod Ranges
mod Finding
mod Replies
