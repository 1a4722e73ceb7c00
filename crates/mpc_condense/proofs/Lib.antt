pub mod Combinations
pub mod Sequences
pub mod StateColumns
pub mod CostForm
pub mod SameProgram
pub mod Writing
pub mod Advance
pub mod Distances
pub mod Sums
pub mod MoveSums
pub mod RowLemmas
pub mod Condensing
pub mod Admissible
pub mod WidePlaces
pub mod Stacks
pub mod BestMoves
pub mod OneProgram
pub mod SameRows
mod FirstPivots
mod OneOutcome
