pub mod NoisePart
pub mod StateLines
pub mod Outcomes
pub mod Inputs
pub mod StateTheorems
