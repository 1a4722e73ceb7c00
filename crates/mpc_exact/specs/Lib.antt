pub mod Gcd
pub mod Rational
pub mod Pair
pub mod Denominator
