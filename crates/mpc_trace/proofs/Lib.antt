pub mod HistoryLemmas
pub mod TraceLemmas
pub mod TreeLemmas
pub mod ClaimLemmas
pub mod PlantLemmas
pub mod DrillLemmas
pub mod TextLemmas
