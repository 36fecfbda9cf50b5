mod Bytes
mod Example
