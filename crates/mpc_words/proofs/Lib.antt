pub mod NumeralLemmas
pub mod LineLemmas
pub mod ReadLemmas
pub mod IntegerLemmas
pub mod FractionLemmas
pub mod WholeLineLemmas
