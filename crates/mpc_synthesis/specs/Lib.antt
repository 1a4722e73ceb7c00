pub mod Crews
pub mod Programs
pub mod Tables
pub mod Controllers
pub mod Refusals
pub mod Outcomes
pub mod RightReplies
pub mod Compiled
