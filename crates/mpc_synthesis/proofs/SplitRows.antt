-- The row by which a tree divides a cell: one of a law whose region meets the cell, and so with a number that isn't 0 on the left.
use Rattle.std.proofs.Common.{◌≡◌, ℕ, ◌+◌, ◌<◌, List, [], ◌∷◌, ◌++◌, length, get_or, map, ℤ, pos, sym, ◌∙◌, ap, subst, arith, All, inl, inr}
use Rattle.std.proofs.lemmas.List.{get_or-map, length-map}
use Rattle.std.proofs.lemmas.List.Elements.{All-get_or, All-head, All-tail}
use Rattle.std.proofs.lemmas.Option.{get_or_from_slice_get, slice_get_within}
use Rattle.mpc_exact.specs.Rational.{ℚ, int, ◌≤ℚ◌}
use Rattle.mpc_space.specs.Vector.{dot, IsZero}
use Rattle.mpc_space.specs.Matrix.{height}
use Rattle.mpc_space.proofs.Vector.{dot_comm}
use Rattle.mpc_space.proofs.Entries.{dot-zero}
use Rattle.mpc_linear.specs.declared.integers.RowInt.{RowInt}
use Rattle.mpc_linear.specs.Whole.{DividesAll, IsPrimitive}
use Rattle.mpc_linear.specs.PrimitiveRows.{SmallPrimitiveRow}
use Rattle.mpc_rows.specs.declared.programs.Qp.{Qp}
use Rattle.mpc_rows.specs.declared.laws.Law.{Law}
use Rattle.mpc_rows.specs.declared.systems.Row.{Row}
use Rattle.mpc_rows.specs.LinearSystem.{MeetsRow}
use Rattle.mpc_rows.specs.Laws.{IsLaw, IsInRegion}
use Rattle.mpc_rows.specs.LawRows.{IsLawRow, AreLawRows, law_sides, law_bound, whole_row}
use Rattle.mpc_rows.specs.SetRuns.{box_rows, region_system, LawRowsFit}
use Rattle.mpc_rows.specs.LawTheorems.{LawRowSize}
use Rattle.mpc_rows.specs.RegionTheorems.{RegionPoints}
use Rattle.mpc_controller.specs.Parts.{IsSplitRow}
use Rattle.mpc_tree.specs.Cells.{RegionMeets, IsFirstToFail}
use Rattle.mpc_synthesis.proofs.ElementLemmas.{All-split}

abbrev blank : RowInt
blank = record { a = []; b = pos 0 }

-- a row with no coefficient holds at each point or at none
zeros_of : (zs : List ℤ) → All (λ z. z ≡ pos 0) zs → IsZero (map int zs)
zeros_of [] h = tt
zeros_of (z ∷ zs) h = (ap int (All-head (λ y. y ≡ pos 0) z zs h), zeros_of zs (All-tail (λ y. y ≡ pos 0) z zs h))

left_zero : (row : RowInt) (t : List ℚ) → All (λ z. z ≡ pos 0) row.a → dot (map int row.a) t ≡ int (pos 0)
left_zero row t h = dot_comm (map int row.a) t ∙ dot-zero t (map int row.a) (zeros_of row.a h)

same_everywhere : (row : RowInt) (s t : List ℚ) → All (λ z. z ≡ pos 0) row.a → MeetsRow s (whole_row row) → MeetsRow t (whole_row row)
same_everywhere row s t h m = subst (λ x. x ≤ℚ int row.b) (left_zero row s h ∙ sym (left_zero row t h)) m

-- the rows of a law hold in its region
holds_in_region : RegionPoints → (qp : Qp) (law : Law) → IsLaw qp law → (rows : List RowInt) → AreLawRows qp law rows → (t : List ℚ) → IsInRegion qp law t → (k : ℕ) → k < length rows → MeetsRow t (whole_row (get_or rows k blank))
unfolding region_system
holds_in_region region_points qp law is rows are t r k h =
    let point = (region_points qp law is rows are t).0 r in
    let parts = All-split (MeetsRow t) (box_rows (length qp.counts) qp.counts) (map whole_row rows) point.meets in
    subst (MeetsRow t) (get_or-map whole_row rows k blank (whole_row blank) h) (All-get_or (MeetsRow t) (map whole_row rows) k (whole_row blank) (subst (λ n. k < n) (sym (length-map rows whole_row)) h) parts.1)

module _ (region_points : RegionPoints) (law_row_size : LawRowSize) (small_row : SmallPrimitiveRow) (qp : Qp) (law : Law) (is_law : IsLaw qp law) (fit : LawRowsFit qp law (height qp.g)) (cell : List Row) (meets : RegionMeets qp cell law) (row : RowInt) (first : IsFirstToFail qp law cell row) where
  within : first.place < length first.rows
  within = slice_get_within first.rows first.place row first.is

  row_is : get_or first.rows first.place blank ≡ row
  row_is = get_or_from_slice_get first.rows first.place row blank first.is

  is_law_row : IsLawRow qp law (first.place + 1) row
  is_law_row = subst (IsLawRow qp law (first.place + 1)) row_is (first.of_law.each first.place (subst (λ n. first.place < n) first.of_law.one_each within))

  -- it holds at the state at which the region meets the cell, and fails at another state
  not_zero : All (λ z. z ≡ pos 0) row.a → ⊥
  not_zero zeros =
      let holds : MeetsRow meets.state (whole_row row) = subst (λ r. MeetsRow meets.state (whole_row r)) row_is (holds_in_region region_points qp law is_law first.rows first.of_law meets.state meets.in_region first.place within) in
      first.fails.fails (same_everywhere row meets.state first.fails.state zeros holds)

  coprime : (d : ℕ) → DividesAll d (row.a ++ row.b ∷ []) → d ≡ 1
  coprime = by is_law_row.primitive
    where
      by : IsPrimitive (row.a ++ row.b ∷ []) → (d : ℕ) → DividesAll d (row.a ++ row.b ∷ []) → d ≡ 1
      by (inl h) = h
      by (inr h) = absurd (not_zero (All-split (λ z. z ≡ pos 0) row.a (row.b ∷ []) h).0)

  pub split_row : IsSplitRow (length qp.counts) row
  split_row =
      let place : first.place < height qp.g = subst (λ n. first.place < n) first.of_law.one_each within in
      record {
        size = law_row_size qp law (first.place + 1) is_law.shape row is_law_row.multiple;
        some = not_zero;
        no_divisor = coprime;
        small = small_row (law_sides qp law (first.place + 1)) (law_bound qp law (first.place + 1)) row (fit (first.place + 1) (omega arith) (omega arith)).whole (record { scaled = is_law_row.multiple; primitive = is_law_row.primitive });
      }
