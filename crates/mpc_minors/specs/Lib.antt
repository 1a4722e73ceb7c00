pub mod Sizes
pub mod SmallRows
pub mod Lines
pub mod LineMinors
