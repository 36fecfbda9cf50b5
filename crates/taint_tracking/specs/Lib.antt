pub mod Courses
pub mod Sinks
pub mod Following
pub mod Watched
