pub mod Totals
pub mod Squares
pub mod Witness
pub mod Forms
pub mod Cells
pub mod Work
pub mod Stages
