pub mod Sets
pub mod SetLaws
pub mod Fields
pub mod FirstTrue
