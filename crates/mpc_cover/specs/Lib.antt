pub mod Cheapest
pub mod Implied
pub mod CoverTheorems
