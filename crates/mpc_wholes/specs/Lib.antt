pub mod Sizes
pub mod Wholes
pub mod Sums
pub mod OverTheorems
pub mod Spans
