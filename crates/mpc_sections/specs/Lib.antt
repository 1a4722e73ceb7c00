pub mod Sections
pub mod Alone
pub mod Steps
pub mod Outcomes
