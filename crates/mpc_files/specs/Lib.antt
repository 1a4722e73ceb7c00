pub mod FileOutcomes
pub mod FileAnswers
pub mod FileTheorems
pub mod RightForever
pub mod SafetyAnswers
pub mod SafetyOutcomes
