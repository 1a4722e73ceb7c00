pub mod Words
pub mod Heights
pub mod Sums
pub mod Block
pub mod Layouts
pub mod Walks
pub mod BlockReplies
