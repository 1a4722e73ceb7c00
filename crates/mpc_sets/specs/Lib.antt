pub mod RowSet
pub mod SetOrder
pub mod SetMask
pub mod NextLevel
pub mod SetText
pub mod SetTheorems
