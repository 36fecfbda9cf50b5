pub mod Hearing
mod Travelling
mod Within
mod Writing
mod StateTexts
mod CommandPackets
mod Written
mod Told
mod Bytes
mod Worked
