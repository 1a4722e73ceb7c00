-- The numbers that stand in strings of a plant file.
use Rattle.std.specs.Prelude.{◌≡◌, ◌≢◌, ℕ, ◌+◌, ◌*◌, ◌^◌, List, ◌++◌, codes, length, pos, true}
use Rattle.mpc_exact.specs.Rational.{ℚ, int, frac, neg_ℚ}
use Rattle.mpc_plant.specs.Decimals.{is_numeral, decimal_value}

-- one to 18 digits, of this value
pub record IsNumeral (value : ℕ) (text : List ℕ) : Type 0 where
  pub digits : is_numeral text ≡ true
  pub value_is : decimal_value text ≡ value

-- D, D/E with E not 0, or D.E
pub data IsUnsigned : ℚ → List ℕ → Type 0 where
  whole : (d : ℕ) (text : List ℕ) → IsNumeral d text → IsUnsigned (int (pos d)) text
  ratio : (d e : ℕ) (over under : List ℕ) → IsNumeral d over → IsNumeral e under → e ≢ 0 → IsUnsigned (frac (pos d) e) (over ++ (codes "/" ++ under))
  decimal : (d e : ℕ) (before behind : List ℕ) → IsNumeral d before → IsNumeral e behind → IsUnsigned (frac (pos (d * 10 ^ length behind + e)) (10 ^ length behind)) (before ++ (codes "." ++ behind))

-- with a minus before it, or without
pub data IsSpelled : ℚ → List ℕ → Type 0 where
  plain : (x : ℚ) (text : List ℕ) → IsUnsigned x text → IsSpelled x text
  minus : (x : ℚ) (text : List ℕ) → IsUnsigned x text → IsSpelled (neg_ℚ x) (codes "-" ++ text)
