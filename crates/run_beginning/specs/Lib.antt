pub mod Need
pub mod NeedLaws
pub mod Beginnings
pub mod BeginningLaws
