-- How a fraction is written.
use Rattle.std.specs.Prelude.{ℕ, List, ◌++◌, codes, if◌then◌else◌, ◌==◌, decimal}
use Rattle.std.specs.Fmt.{signed_decimal}
use Rattle.mpc_exact.specs.Rational.{ℚ}

-- the numerator in decimal digits and, unless it is 1, a slash and the denominator
abbrev pub text_of : ℚ → List ℕ
text_of x = if x.denom == 1 then signed_decimal x.numer else signed_decimal x.numer ++ codes "/" ++ decimal x.denom
