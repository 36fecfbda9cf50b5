pub mod Headers
pub mod Note
pub mod CoreFile
pub mod CoreLaws
