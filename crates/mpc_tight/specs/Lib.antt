pub mod Noise
pub mod Disturbed
pub mod Tightening
pub mod Tightened
pub mod TightTheorems
