pub mod Total
pub mod Entries
pub mod Vector
pub mod Matrix
pub mod Quadratic
pub mod Elimination
pub mod Definite
pub mod Optimality
pub mod Outcomes
pub mod Words
mod DefinitionTests
