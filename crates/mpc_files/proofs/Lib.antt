pub mod OutcomeLemmas
pub mod TextLemmas
pub mod CheckLemmas
pub mod ForeverLemmas
pub mod SafetyOutcomeLemmas
pub mod FileLemmas
