pub mod Beginnings
pub mod LongerSeats
pub mod RunLists
pub mod Kept
pub mod Broken
pub mod Meetings
pub mod Limit
pub mod Open
