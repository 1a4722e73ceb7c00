-- The fraction that a C caller sends by its parts.
use Rattle.std.specs.Prelude.{◌≡◌, ℕ, ◌+◌, ◌*◌, ◌<◌, ◌^◌, ℤ, pos, neg_ℤ, ◌<ℤ◌, ◌↔◌, IsTrue, if◌then◌else◌}
use Rattle.mpc_exact.specs.Rational.{ℚ, quotient}
use Rattle.mpc_bench.specs.declared.parts.Parts.{Parts}

abbrev pub size_of : Parts → ℕ
size_of p = p.num_high * 2 ^ 64 + p.num_low

abbrev pub below_of : Parts → ℕ
below_of p = p.den_high * 2 ^ 64 + p.den_low

abbrev pub numer_of : Parts → ℤ
numer_of p = if p.negative then neg_ℤ (pos (size_of p)) else pos (size_of p)

abbrev pub value_of : Parts → ℚ
value_of p = quotient (numer_of p) (pos (below_of p))

-- both parts below 2^127, and the denominator not 0
pub record IsReadable (p : Parts) : Type 0 where
  pub size_small : size_of p < 2 ^ 127
  pub below_small : below_of p < 2 ^ 127
  pub below_positive : 0 < below_of p

-- the numerator and the denominator of the number in lowest terms, and a sign only where it is negative
pub record ArePartsOf (p : Parts) (x : ℚ) : Type 0 where
  pub numer_is : numer_of p ≡ x.numer
  pub below_is : below_of p ≡ x.denom
  pub sign : IsTrue p.negative ↔ (x.numer <ℤ pos 0)
