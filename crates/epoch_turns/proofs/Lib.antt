mod Lists
mod Sweeps
mod Jobs
mod Grouping
