pub mod Sums
pub mod Keeps
pub mod Lending
pub mod Once
pub mod Calls
pub mod Slot
pub mod Hands
