-- The rows of a law: the conditions on t under which a point lies in its region, each as a row in whole numbers without a common divisor.
use Rattle.std.specs.Prelude.{◌≡◌, ℕ, suc, ◌+◌, ◌<◌, ◌≤◌, ◌++◌, ◌||◌, Bool, true, false, cond, eqb, Option, Some, None, List, [], ◌∷◌, length, map, get_or, pos, negsuc}
use Rattle.mpc_exact.specs.Rational.{ℚ, int, ◌+ℚ◌, ◌≤ℚ◌, neg_ℚ, IsNonneg}
use Rattle.mpc_space.specs.Vector.{coordinate, column, dot, vec_scale, listed, later_entries}
use Rattle.mpc_space.specs.Matrix.{height}
use Rattle.mpc_linear.specs.declared.integers.RowInt.{RowInt}
use Rattle.mpc_linear.specs.Dot.{SumFits}
use Rattle.mpc_linear.specs.Whole.{WholeFits, IsScaledRow, IsPrimitive}
use Rattle.mpc_rows.specs.declared.programs.Qp.{Qp}
use Rattle.mpc_rows.specs.declared.laws.Law.{Law}
use Rattle.mpc_rows.specs.declared.systems.Row.{Row}
use Rattle.mpc_rows.specs.ActiveSets.{extended, row_of}
use Rattle.mpc_rows.specs.Laws.{moves_at, mults_at}

abbrev pub is_member : ℕ → List ℕ → Bool
is_member i [] = false
is_member i (j ∷ s) = eqb i j || is_member i s

-- where a member stands among the members, from 0
abbrev pub place_of : ℕ → List ℕ → ℕ
place_of i [] = 0
place_of i (j ∷ s) = cond (eqb i j) 0 (suc (place_of i s))

-- the place of a row among the members, if it is one
abbrev pub IsPlaceAmong : List ℕ → ℕ → Option ℕ → Type 0
IsPlaceAmong s i None = is_member i s ≡ false
IsPlaceAmong s i (Some k) = (is_member i s ≡ true) × (k ≡ place_of i s) × (k < length s)

-- what the law's row for row i of the program asks of a point t: that a member's multiplier isn't negative, and else that the unknowns
-- satisfy row i
abbrev pub MeetsConditionBy : Bool → Qp → Law → ℕ → List ℚ → Type 0
MeetsConditionBy true qp law i t = IsNonneg (coordinate (mults_at law t) (place_of i law.set))
MeetsConditionBy false qp law i t = dot (row_of qp.g.rows i) (moves_at law t) ≤ℚ dot (row_of qp.w.rows i) (extended t)

abbrev pub MeetsCondition : Qp → Law → ℕ → List ℚ → Type 0
MeetsCondition qp law i t = MeetsConditionBy (is_member i law.set) qp law i t

-- g_i z(t) - w_i c, on the extended counts c
abbrev pub excess_form : Qp → Law → ℕ → List ℚ
excess_form qp law i = listed (length qp.counts + 1) (λ j. neg_ℚ (coordinate (row_of qp.w.rows i) j) +ℚ dot (row_of qp.g.rows i) (column law.moves.rows j))

-- the negative of the multiplier of the member at place k, from 0
abbrev pub member_form : Law → ℕ → List ℚ
member_form law k = vec_scale (int (negsuc 0)) (get_or law.mults.rows k [])

-- the affine form that is at most 0 where the condition of row i holds: the negative of a member's multiplier, and else what the row exceeds
unfoldable pub law_form : Qp → Law → ℕ → List ℚ
law_form qp law i = cond (is_member i law.set) (member_form law (place_of i law.set)) (excess_form qp law i)

-- that condition as a row in t: the coefficients on t, and the negative of the one on 1
abbrev pub law_sides : Qp → Law → ℕ → List ℚ
law_sides qp law i = later_entries (law_form qp law i)

abbrev pub law_bound : Qp → Law → ℕ → ℚ
law_bound qp law i = neg_ℚ (coordinate (law_form qp law i) 0)

-- row i of a law: whole numbers without a common divisor, a positive multiple of the condition
pub record IsLawRow (qp : Qp) (law : Law) (i : ℕ) (row : RowInt) : Type 0 where
  pub multiple : IsScaledRow (law_sides qp law i) (law_bound qp law i) row.a row.b
  pub primitive : IsPrimitive (row.a ++ row.b ∷ [])

-- all rows of a law
pub record AreLawRows (qp : Qp) (law : Law) (rows : List RowInt) : Type 0 where
  pub one_each : length rows ≡ height qp.g
  pub each : (i : ℕ) → i < height qp.g → IsLawRow qp law (i + 1) (get_or rows i (record { a = []; b = pos 0 }))

-- ---- the numbers that must fit
-- for a row outside the set, the sums that form the coefficient on the extended count j, from the negative of w's entry on
abbrev pub CoefficientFits : Qp → Law → ℕ → ℕ → Type 0
CoefficientFits qp law i j = is_member i law.set ≡ false → SumFits (neg_ℚ (coordinate (row_of qp.w.rows i) j)) (row_of qp.g.rows i) (column law.moves.rows j)

-- those of the coefficients on t
abbrev pub SidesFit : Qp → Law → ℕ → Type 0
SidesFit qp law i = (j : ℕ) → 1 ≤ j → j < length qp.counts + 1 → CoefficientFits qp law i j

-- those of all coefficients
abbrev pub FormFits : Qp → Law → ℕ → Type 0
FormFits qp law i = is_member i law.set ≡ false → (j : ℕ) → j < length qp.counts + 1 → SumFits (neg_ℚ (coordinate (row_of qp.w.rows i) j)) (row_of qp.g.rows i) (column law.moves.rows j)

pub record LawRowFits (qp : Qp) (law : Law) (i : ℕ) : Type 0 where
  pub form : FormFits qp law i
  pub whole : WholeFits (law_sides qp law i ++ law_bound qp law i ∷ [])

-- ---- as a row of a system
abbrev pub whole_row : RowInt → Row
whole_row r = record { a = map int r.a; b = int r.b; strict = false }

-- the row outside which r holds: -a · t < -b
abbrev pub broken_row : RowInt → Row
broken_row r = record { a = vec_scale (int (negsuc 0)) (map int r.a); b = neg_ℚ (int r.b); strict = true }
