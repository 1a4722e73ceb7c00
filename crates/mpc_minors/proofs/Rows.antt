-- The whole numbers of each variable's row.
use Rattle.std.proofs.Common.{◌≡◌, ℕ, ◌+◌, ◌-◌, ◌*◌, ◌<◌, ◌≤◌, Bool, true, false, cond, ltb, eqb, List, ℤ, pos, unsigned_abs, [], ◌∷◌, sym, ◌∙◌, ap, arith, ◌⊎◌, inl, inr, lt-ltb, le-ltb}
use Rattle.std.proofs.lemmas.Bool.{cond-true, cond-false, cases_lt}
use Rattle.mpc_exact.specs.Rational.{ℚ, int, frac, ◌*ℚ◌}
use Rattle.mpc_exact.proofs.RationalRing.{reads, by_ring}
use Rattle.mpc_exact.proofs.School.{frac_times}
use Rattle.mpc_space.specs.Total.{total, unit}
use Rattle.mpc_space.proofs.Total.{total-same, total-scale, total-unit}
use Rattle.mpc_rows.specs.LinearSystem.{LinearSystem, height, entry}
use Rattle.mpc_rows.specs.Run.{count, opening}
use Rattle.mpc_scaled.specs.Scaled.{whole_cell, scale_at, IsSmall, IsWholeSystem}
use Rattle.mpc_runs.proofs.TableauRows.{Meets}
use Rattle.mpc_runs.proofs.LeftSides.{side_value}
use Rattle.mpc_minors.proofs.Padded.{whole_unit, int-unit}

-- an unknown has the row of its own, a side that of the list
abbrev pub number : ℕ → List ℤ → ℕ → ℕ → ℤ
number width a y j = cond (ltb y width) (whole_unit y j) (whole_cell width a (y - width) j)

cond_small : (most : ℕ) (b c : Bool) (z : ℤ) → 1 ≤ most → unsigned_abs z ≤ most → unsigned_abs (cond b (cond c (pos 1) (pos 0)) z) ≤ most
cond_small most true true z o h = o
cond_small most true false z o h = omega arith
cond_small most false c z o h = h

pub number-small : (most width : ℕ) (a : List ℤ) → 1 ≤ most → IsSmall most a → (y j : ℕ) → unsigned_abs (number width a y j) ≤ most
number-small most width a o h y j = cond_small most (ltb y width) (eqb y j) (whole_cell width a (y - width) j) o (h.each ((y - width) * width + j))

times_one : (x : ℚ) → int (pos 1) *ℚ x ≡ x
times_one x = by_ring (x ∷ []) (search reads depth 30) (search reads depth 30) tt

inward : (k e x : ℚ) → k *ℚ (e *ℚ x) ≡ (k *ℚ e) *ℚ x
inward k e x = by_ring (k ∷ e ∷ x ∷ []) (search reads depth 30) (search reads depth 30) tt

module _ (s : LinearSystem) (k : List ℕ) (a b : List ℤ) (w : IsWholeSystem s k a b) (x : ℕ → ℚ) (h : Meets (count s) (opening s) x) where
  abbrev cell : ℕ → ℕ → ℤ
  cell y j = number s.width a y j

  abbrev IsScaled : ℕ → Type 0
  IsScaled y = int (pos (scale_at k y)) *ℚ x y ≡ total s.width (λ j. int (cell y j) *ℚ x j)

  of_unknown : (y : ℕ) → y < count s → y < s.width → IsScaled y
  of_unknown y l u =
      ap (λ n. int (pos n) *ℚ x y) (w.scales.own y u) ∙ times_one (x y) ∙ sym (total-unit s.width y x u)
      ∙ total-same s.width (λ j. unit y j *ℚ x j) (λ j. int (cell y j) *ℚ x j)
      (λ j i. ap (λ c. c *ℚ x j) (sym (ap int (cond-true (ltb y s.width) (whole_unit y j) (whole_cell s.width a (y - s.width) j) (lt-ltb y s.width u)) ∙ int-unit y j)))

  of_side : (y : ℕ) → y < count s → s.width ≤ y → IsScaled y
  of_side y l u =
      let i = y - s.width in
      let q : s.width + i ≡ y = omega arith in
      let i_in : i < height s = omega arith in
      let some : 0 < scale_at k y = w.scales.some y l in
      ap (λ v. int (pos (scale_at k y)) *ℚ v) (ap x (sym q) ∙ side_value s x h i i_in)
      ∙ sym (total-scale s.width (int (pos (scale_at k y))) (λ j. entry s i j *ℚ x j))
      ∙ total-same s.width (λ j. int (pos (scale_at k y)) *ℚ (entry s i j *ℚ x j)) (λ j. int (cell y j) *ℚ x j)
      (λ j m. inward (int (pos (scale_at k y))) (entry s i j) (x j)
      ∙ ap (λ c. c *ℚ x j) (ap (λ e. int (pos (scale_at k y)) *ℚ e) (w.entries i j i_in m ∙ ap (λ z. frac (whole_cell s.width a i j) (scale_at k z)) q) ∙ frac_times (whole_cell s.width a i j) (scale_at k y) some
      ∙ sym (ap int (cond-false (ltb y s.width) (whole_unit y j) (whole_cell s.width a i j) (le-ltb y s.width u)))))

  -- values that meet the opening's rows meet those of the whole numbers
  pub meets_number : (y : ℕ) → y < count s → IsScaled y
  meets_number y l = by (cases_lt y s.width)
    where
      by : (y < s.width) ⊎ (s.width ≤ y) → IsScaled y
      by (inl u) = of_unknown y l u
      by (inr u) = of_side y l u
