pub mod Image
pub mod Window
pub mod StartLaws
