pub mod Wholes
pub mod EntryWriting
pub mod RowWriting
pub mod SystemRows
pub mod CellPoints
