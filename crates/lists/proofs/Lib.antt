pub mod Algebra
pub mod Places
pub mod Sorting
pub mod Filters
pub mod FirstTrue
pub mod Tests
pub mod Lists
pub mod Numbers
