-- The digest of many answers: passes over 1024 pairs of fractions, each of which mixes one number into it.
use Rattle.std.specs.Prelude.{ℕ, zero, suc, ◌^◌, ◌%◌, Bool, ◌&&◌, nat_lt, if◌then◌else◌, Option, Some, None, List, pos, ℤ, unsigned_abs, ◌+ℤ◌, slice_get, unwrap_or}
use Rattle.std.specs.Int.{w64, rotate_left}
use Rattle.std.specs.Int.Bits.{bit_xor}
use Rattle.mpc_exact.specs.Rational.{ℚ, int, ◌+ℚ◌, ◌*ℚ◌, cmp_ℚ}
use Rattle.mpc_frac.specs.Fits.{left_of_sum, right_of_sum, denom_of_sum}
use Rattle.mpc_bench.specs.Parts.{size_of, below_of, value_of}
use Rattle.mpc_bench.specs.declared.parts.Parts.{Parts}
use Rattle.mpc_bench.specs.Orders.{code_of}

-- ---- the fractions
abbrev pub is_readable : Parts → Bool
is_readable p = nat_lt (size_of p) (2 ^ 127) && nat_lt (below_of p) (2 ^ 127) && nat_lt 0 (below_of p)

-- 0 for what is no fraction
abbrev pub number_of : Parts → ℚ
number_of p = if is_readable p then value_of p else int (pos 0)

abbrev number_in : Option Parts → ℚ
number_in None = int (pos 0)
number_in (Some p) = number_of p

-- 0 behind the end of the list, too
abbrev pub number_at : List Parts → ℕ → ℚ
number_at parts place = number_in (slice_get parts place)

-- ---- the number that an answer mixes into a digest: the low 64 bits of its numerator's size, and 0 where it doesn't fit
abbrev pub low_of : ℤ → ℕ
low_of z = unsigned_abs z % 2 ^ 64

abbrev pub fits_sum : ℚ → ℚ → Bool
fits_sum x y = nat_lt (unsigned_abs (left_of_sum x y)) (2 ^ 127) && nat_lt (unsigned_abs (right_of_sum x y)) (2 ^ 127) && nat_lt (unsigned_abs (left_of_sum x y +ℤ right_of_sum x y)) (2 ^ 127) && nat_lt (denom_of_sum x y) (2 ^ 127)

abbrev pub fits : ℚ → Bool
fits x = nat_lt (unsigned_abs x.numer) (2 ^ 127) && nat_lt x.denom (2 ^ 127)

unfoldable pub sum_digit : ℚ → ℚ → ℕ
sum_digit x y = if fits_sum x y then low_of (x +ℚ y).numer else 0

unfoldable pub product_digit : ℚ → ℚ → ℕ
product_digit x y = if fits (x *ℚ y) then low_of (x *ℚ y).numer else 0

unfoldable pub order_digit : ℚ → ℚ → ℕ
order_digit x y = low_of (code_of (cmp_ℚ x y))

unfoldable pub number_digit : ℚ → ℕ
number_digit x = low_of x.numer

-- ---- the digest
abbrev pub mixed : ℕ → ℕ → ℕ
mixed digest digit = bit_xor (rotate_left w64 digest 1) digit

-- so many digits mixed in, one behind the other
unfoldable pub digits_mixed : (ℕ → ℕ) → ℕ → ℕ → ℕ
digits_mixed digit zero digest = digest
digits_mixed digit (suc n) digest = mixed (digits_mixed digit n digest) (digit n)

-- so many passes over 1024 digits
unfoldable pub passes : (ℕ → ℕ) → ℕ → ℕ
passes digit zero = 0
passes digit (suc n) = digits_mixed digit 1024 (passes digit n)

-- the digits of pairs of fractions
abbrev pub paired : (ℚ → ℚ → ℕ) → List Parts → List Parts → ℕ → ℕ
paired digit left right place = digit (number_at left place) (number_at right place)

-- the same of fractions that have been read
abbrev pub between : (ℚ → ℚ → ℕ) → List ℚ → List ℚ → ℕ → ℕ
between digit left right place = digit (unwrap_or (slice_get left place) (int (pos 0))) (unwrap_or (slice_get right place) (int (pos 0)))
