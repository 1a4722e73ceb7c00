pub mod SectionLemmas
pub mod OneAnswer
pub mod StepLemmas
