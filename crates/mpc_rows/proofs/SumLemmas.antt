-- The dot of multipliers with one number of each row, row by row.
use Rattle.std.proofs.Common.{◌≡◌, ℕ, ◌+◌, ◌<◌, ◌≤◌, List, [], ◌∷◌, map, length, slice_get, Some, pos, sym, ◌∙◌, ap, subst, arith}
use Rattle.std.proofs.lemmas.List.{get_or-map, length-map}
use Rattle.std.proofs.lemmas.Option.{get_or_from_slice_get}
use Rattle.mpc_exact.specs.Rational.{ℚ, int, ◌+ℚ◌, ◌*ℚ◌}
use Rattle.mpc_exact.proofs.RationalRing.{reads, by_ring}
use Rattle.mpc_space.specs.Vector.{coordinate, dot}
use Rattle.mpc_linear.specs.Dot.{TermFits, DotFits}
use Rattle.mpc_linear.specs.SumTheorems.{SumTheorems, IsSumSoFar, StandAt}
use Rattle.mpc_rows.specs.declared.systems.Row.{Row}
use Rattle.mpc_rows.specs.LinearSystem.{LinearSystem}

abbrev pub seen : ℕ → List Row → LinearSystem
seen width rows = record { width = width; rows = rows }

module _ (laws : SumTheorems) (m : List ℚ) (inside : List Row) (width : ℕ) (s : LinearSystem) (f : Row → ℚ) (i : ℕ) (sum : ℚ) (view : seen width inside ≡ s) (e : length m ≡ length s.rows) (g : IsSumSoFar (int (pos 0)) m (map f s.rows) i sum) where
  rows_is : inside ≡ s.rows
  rows_is = ap (λ (z : LinearSystem). z.rows) view

  length_is : length inside ≡ length s.rows
  length_is = ap length rows_is

  module _ (n : ℕ) (h : i < n) (long : n ≡ length inside) (x y : ℚ) (r : Row) (ex : x ≡ coordinate m i) (er : slice_get inside i ≡ Some r) (ey : y ≡ f r) where
    within : i < length s.rows
    within = let k : length inside ≡ length s.rows = length_is in omega arith

    row_is : slice_get s.rows i ≡ Some r
    row_is = subst (λ z. slice_get z i ≡ Some r) rows_is er

    y_is : y ≡ coordinate (map f s.rows) i
    y_is = ey ∙ sym (get_or-map f s.rows i r (int (pos 0)) within ∙ ap f (get_or_from_slice_get s.rows i r r row_is))

    short : i < length (map f s.rows)
    short = subst (λ k. i < k) (sym (length-map s.rows f)) within

    m_short : i < length m
    m_short = let k : i < length s.rows = within in omega arith

    stand : StandAt m (map f s.rows) i x y
    stand = record { within_left = m_short; within_right = short; left = ex; right = y_is }

    pub sum_more : (next : ℚ) → next ≡ sum +ℚ x *ℚ y → TermFits sum x y → IsSumSoFar (int (pos 0)) m (map f s.rows) (i + 1) next
    sum_more next en t = laws.more (int (pos 0)) m (map f s.rows) i sum x y next stand g en t

    pub sum_wide : (TermFits sum x y → ⊥) → DotFits m (map f s.rows) → ⊥
    sum_wide t = laws.wide (int (pos 0)) m (map f s.rows) i sum x y stand g t

  module _ (n : ℕ) (h : n ≤ i) (long : n ≡ length inside) where
    over : length m ≤ i
    over = let k : length inside ≡ length s.rows = length_is in omega arith

    pub sum_value : sum ≡ dot m (map f s.rows)
    sum_value = laws.value (int (pos 0)) m (map f s.rows) i sum over g ∙ by_ring (dot m (map f s.rows) ∷ []) (search reads depth 30) (search reads depth 30) tt

    pub sum_fits : DotFits m (map f s.rows)
    sum_fits = laws.fits (int (pos 0)) m (map f s.rows) i sum over g
