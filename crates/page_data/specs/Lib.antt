pub mod Rows
pub mod Data
pub mod Page
pub mod PageLaws
pub mod Moved
