pub mod SpellingLemmas
pub mod NumberLines
