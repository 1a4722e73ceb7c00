pub mod Fronts
pub mod Kept
pub mod Filling
pub mod Parts
pub mod Stages
