mod Benching
mod Cutting
mod Giving
mod Obeying
mod Recording
mod Reporting
mod Several
mod Working
