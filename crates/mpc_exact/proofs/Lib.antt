pub mod Ring
pub mod IntRing
pub mod Rational
pub mod RationalRing
pub mod RationalOrder
pub mod RationalField
pub mod Linear
pub mod OrderTheorems
pub mod School
pub mod Pair
pub mod Absolute
pub mod Denominator
mod SolverTests
