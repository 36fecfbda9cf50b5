pub mod Numbered
pub mod Shapes
pub mod CutLaws
