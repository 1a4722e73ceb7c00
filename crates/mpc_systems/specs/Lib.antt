pub mod Writing
pub mod Equations
pub mod Systems
pub mod CellTheorems
