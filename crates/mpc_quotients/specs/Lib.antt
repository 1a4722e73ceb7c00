pub mod Sums
pub mod OverTheorems
