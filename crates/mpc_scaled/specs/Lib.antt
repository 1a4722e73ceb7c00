pub mod Scaled
pub mod WholeSystems
