pub mod Halves
pub mod DigestLemmas
pub mod GoingOn
pub mod Passed
pub mod Replied
pub mod Stopped
