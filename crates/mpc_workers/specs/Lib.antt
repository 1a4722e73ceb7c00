pub mod Ahead
pub mod Holding
pub mod Alone
pub mod Calls
pub mod Posts
pub mod Seats
pub mod Joined
