-- The denominator after a sweep.
use Rattle.std.proofs.Common.{◌≡◌, ℕ, ◌-◌, ◌*◌, ◌^◌, ◌<◌, ◌≤◌, List, ℤ, unsigned_abs, ◌∙◌, ap, arith, ⊎_elim, mul_comm, mul-pos, mul-le-mul_right}
use Rattle.std.proofs.lemmas.Bool.{cases_lt}
use Rattle.mpc_sweep.specs.declared.numbers.Swept.{Swept}
use Rattle.mpc_sweep.specs.Numbers.{told_columns, number}
use Rattle.mpc_sweep.specs.Steps.{AreRows, AreSweptRows}

left_some : (a b c : ℕ) → 0 < c → a * b ≡ c → 0 < a
left_some a b c h e = ⊎_elim (λ k. k) (λ k. let l : a * b ≤ 0 * b = mul-le-mul_right b k in absurd (omega arith)) (cases_lt 0 a)

right_some : (a b c : ℕ) → 0 < c → a * b ≡ c → 0 < b
right_some a b c h e = left_some b a c h (mul_comm b a ∙ e)

module _ (from : Swept) (p first size : ℕ) (new : List ℤ) (size_is : size ≡ unsigned_abs (number from p p)) (size_some : 0 < size) (den_some : 0 < from.den) where
  -- over the size of the pivot
  pub rows_over_pivot : (most : ℕ) → most ≤ 2 ^ 62 → size ≤ most → AreRows most (told_columns from) from.den from.den from.numbers.items p first (from.columns - first) from.rows new → AreSweptRows from p first size most new
  rows_over_pivot most most_small small rows = record {
    by = from.den;
    some = den_some;
    den_some = size_some;
    den_is = mul_comm size from.den ∙ ap (λ u. from.den * u) size_is;
    den_small = small;
    small = most_small;
    rows = rows;
  }

  -- over less
  pub rows_over_less : (most den taken : ℕ) → den * taken ≡ from.den * size → most ≤ 2 ^ 62 → den ≤ most
      → AreRows most (told_columns from) from.den taken from.numbers.items p first (from.columns - first) from.rows new → AreSweptRows from p first den most new
  rows_over_less most den taken over most_small small rows = record {
    by = taken;
    some = right_some den taken (from.den * size) (mul-pos den_some size_some) over;
    den_some = left_some den taken (from.den * size) (mul-pos den_some size_some) over;
    den_is = over ∙ ap (λ u. from.den * u) size_is;
    den_small = small;
    small = most_small;
    rows = rows;
  }
