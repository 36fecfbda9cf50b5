pub mod Orders
pub mod Flow
pub mod Origins
pub mod OriginLaws
pub mod Ranges
