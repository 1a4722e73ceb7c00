pub mod Sweeps
pub mod Numbers
pub mod Steps
pub mod Reading
pub mod Theorems
