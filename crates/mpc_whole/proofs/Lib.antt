pub mod WholeNorms
pub mod WholeChanges
pub mod WholeScales
pub mod WholeForm
pub mod StatedRows
pub mod WholePivot
pub mod ShortValues
pub mod WholeSteps
pub mod WholeTurns
pub mod Nonbasic
mod ColumnMultipliers
pub mod BearingRows
pub mod ColumnSums
pub mod WholeExchange
mod RowParts
pub mod WholeEnds
pub mod WholeSizes
pub mod WholeMoves
pub mod DividedRows
pub mod Standing
pub mod WholeRun
pub mod ShortTurns
pub mod JudgedRun
pub mod Judges
pub mod JudgedTurns
pub mod WholeRows
pub mod WeighedNumbers
pub mod PositionTheorems
