pub mod Answer
pub mod Nonbasic
pub mod Room
pub mod RunTheorems
pub mod Broken
pub mod Misses
