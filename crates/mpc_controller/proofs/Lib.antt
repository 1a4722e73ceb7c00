pub mod BoundLemmas
pub mod OneBoundLemmas
pub mod PreorderLemmas
pub mod OneLeafLemmas
pub mod ReplyLemmas
pub mod PathLemmas
pub mod WayLemmas
