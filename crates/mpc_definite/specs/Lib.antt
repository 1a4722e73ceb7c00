pub mod Pivots
pub mod Steps
pub mod Causes
pub mod PivotTheorems
