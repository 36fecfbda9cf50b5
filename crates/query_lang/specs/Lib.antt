pub mod Parts
pub mod Choices
pub mod Spans
pub mod Statements
pub mod Drafts
pub mod Answers
pub mod Single
