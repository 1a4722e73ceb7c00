-- The rows of a set's members.
use Rattle.std.proofs.Common.{◌≡◌, ℕ, ◌-◌, ◌<◌, ◌≤◌, List, [], length, get_or, sym, ◌∙◌, ap, arith}
use Rattle.std.proofs.lemmas.List.{get_or-map, length-map}
use Rattle.mpc_exact.specs.Rational.{ℚ}
use Rattle.mpc_space.specs.Vector.{cell, coordinate}
use Rattle.mpc_sets.specs.RowSet.{IsSetOfRows}
use Rattle.mpc_rows.specs.LawTheorems.{LawTheorems}
use Rattle.mpc_rows.specs.ActiveSets.{row_of, rows_of}

pub member_within : LawTheorems → (rows : ℕ) (s : List ℕ) (k i : ℕ) → IsSetOfRows rows s → k < length s → i ≡ get_or s k 0 → (1 ≤ i) × (i ≤ rows)
member_within laws rows s k i h l e =
    let w : (1 ≤ get_or s k 0) × (get_or s k 0 ≤ rows) = laws.member_bounds rows s k h.rises l in
    (omega (arith, w.0), omega (arith, w.1))

pub member_row : (m : List (List ℚ)) (s : List ℕ) (k i : ℕ) → k < length s → i ≡ get_or s k 0 → get_or (rows_of m s) k [] ≡ row_of m i
member_row m s k i l e = get_or-map (row_of m) s k 0 [] l ∙ ap (row_of m) (sym e)

pub member_cell : (m : List (List ℚ)) (s : List ℕ) (k i j : ℕ) → k < length s → i ≡ get_or s k 0 → cell m (i - 1) j ≡ cell (rows_of m s) k j
member_cell m s k i j l e = ap (λ row. coordinate row j) (sym (member_row m s k i l e))

pub length-rows_of : (m : List (List ℚ)) (s : List ℕ) → length (rows_of m s) ≡ length s
length-rows_of m s = length-map s (row_of m)
