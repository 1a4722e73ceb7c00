-- The systems whose runs decide an active set: that of its law, that of a state which reaches it, that of its region.
use Rattle.std.specs.Prelude.{ℕ, suc, ◌+◌, ◌-◌, ◌≤◌, ◌++◌, cond, nat_lt, false, List, [], ◌∷◌, length, map, pos, negsuc}
use Rattle.mpc_exact.specs.Rational.{ℚ, int, neg_ℚ}
use Rattle.mpc_space.specs.Vector.{coordinate, cell, vec_scale, listed, later_entries}
use Rattle.mpc_space.specs.Matrix.{RationalMatrix, height, tabled, entry}
use Rattle.std.specs.List.{range_with_len}
use Rattle.mpc_linear.specs.declared.integers.RowInt.{RowInt}
use Rattle.mpc_linear.specs.Solution.{IsWideColumn}
use Rattle.mpc_rows.specs.declared.programs.Qp.{Qp}
use Rattle.mpc_rows.specs.declared.laws.Law.{Law}
use Rattle.mpc_rows.specs.declared.systems.Row.{Row}
use Rattle.mpc_rows.specs.LinearSystem.{LinearSystem}
use Rattle.mpc_rows.specs.RunWidth.{RunFits}
use Rattle.mpc_rows.specs.ActiveSets.{row_of, rows_of}
use Rattle.mpc_rows.specs.LawRows.{AreLawRows, LawRowFits, whole_row}

-- ---- the law
-- the matrix [[h, g_S'], [g_S, 0]]
abbrev pub law_entry : Qp → List ℕ → ℕ → ℕ → ℚ
law_entry qp s i j =
    let n = height qp.h in
    let g = rows_of qp.g.rows s in
    cond (nat_lt i n) (cond (nat_lt j n) (entry qp.h i j) (cell g (j - n) i)) (cond (nat_lt j n) (cell g (i - n) j) (int (pos 0)))

unfoldable pub law_matrix : Qp → List ℕ → RationalMatrix
law_matrix qp s = tabled (height qp.h + length s) (height qp.h + length s) (law_entry qp s)

-- and its right sides, -f over w_S
abbrev pub law_side : Qp → List ℕ → ℕ → ℕ → ℚ
law_side qp s i j =
    let n = height qp.h in
    cond (nat_lt i n) (neg_ℚ (entry qp.f i j)) (cell (rows_of qp.w.rows s) (i - n) j)

unfoldable pub law_right : Qp → List ℕ → RationalMatrix
law_right qp s = tabled (height qp.h + length s) (length qp.counts + 1) (law_side qp s)

-- no column of the elimination has a number that is too wide
abbrev pub LawFits : Qp → List ℕ → Type 0
LawFits qp s = (column : ℕ) → ¬ IsWideColumn (law_matrix qp s) (law_right qp s) column

-- ---- the box, in so many unknowns, of which t_1, t_2, .. are the first
abbrev pub axis : ℕ → ℕ → ℚ → List ℚ
axis width i x = listed width (λ j. cond (nat_lt i j) (int (pos 0)) (cond (nat_lt j i) (int (pos 0)) x))

-- -t_i <= 0 and t_i <= count_i, for each i in turn
abbrev pub box_from : ℕ → ℕ → List ℕ → List Row
box_from width i [] = []
box_from width i (count ∷ counts) = record { a = axis width i (int (negsuc 0)); b = int (pos 0); strict = false } ∷ record { a = axis width i (int (pos 1)); b = int (pos count); strict = false } ∷ box_from width (suc i) counts

abbrev pub box_rows : ℕ → List ℕ → List Row
box_rows width counts = box_from width 0 counts

-- ---- a state that reaches the set, in the unknowns (t, z)
-- g_i z - (w_i on t) <= (w_i on 1)
abbrev pub joint_row : Qp → ℕ → Row
joint_row qp i = record {
  a = vec_scale (int (negsuc 0)) (later_entries (row_of qp.w.rows i)) ++ row_of qp.g.rows i;
  b = coordinate (row_of qp.w.rows i) 0;
  strict = false;
}

abbrev pub joint_rows : Qp → List Row
joint_rows qp = map (joint_row qp) (range_with_len 1 (height qp.g))

-- the row the other way round
abbrev pub turned : Row → Row
turned r = record { a = vec_scale (int (negsuc 0)) r.a; b = neg_ℚ r.b; strict = r.strict }

unfoldable pub reach_system : Qp → List ℕ → LinearSystem
reach_system qp s =
    let width = length qp.counts + height qp.h in
    record { width = width; rows = box_rows width qp.counts ++ (joint_rows qp ++ map (λ i. turned (joint_row qp i)) s) }

-- ---- the region, in the unknowns t
unfoldable pub region_system : Qp → List RowInt → LinearSystem
region_system qp rows = record { width = length qp.counts; rows = box_rows (length qp.counts) qp.counts ++ map whole_row rows }

abbrev pub RegionFits : Qp → Law → Type 0
RegionFits qp law = (rows : List RowInt) → AreLawRows qp law rows → RunFits (region_system qp rows)

-- the first rows of a law fit
abbrev pub LawRowsFit : Qp → Law → ℕ → Type 0
LawRowsFit qp law n = (i : ℕ) → 1 ≤ i → i ≤ n → LawRowFits qp law i
