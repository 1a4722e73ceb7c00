pub mod LawEnd
pub mod Kept
pub mod Shared
pub mod Sweeps
pub mod SweptRows
pub mod SweptSets
pub mod Asked
pub mod Refuters
