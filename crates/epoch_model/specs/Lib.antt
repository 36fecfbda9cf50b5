pub mod Stretch
pub mod Cutting
pub mod ByLength
pub mod Summary
pub mod Crossing
pub mod Join
pub mod StretchLaws
pub mod JoinLaws
