pub mod Blank
pub mod Views
pub mod Lock
pub mod Known
pub mod HandTheorems
