-- No number is wide in the run over a region's rows where those of the table are small.
use Rattle.std.proofs.Common.{◌≡◌, ℕ, suc, ◌+◌, ◌*◌, ◌^◌, ◌<◌, ◌≤◌, Bool, true, false, cond, eqb, nat_lt, List, [], ◌∷◌, length, map, get_or, All, ℤ, pos, negsuc, neg_ℤ, unsigned_abs, refl, sym, ◌∙◌, ap, subst, arith, eq-eqb, ne_eqb}
use Rattle.std.proofs.lemmas.Bool.{cond-true, cond-false}
use Rattle.std.proofs.lemmas.List.{length-map, get_or-map, length-append}
use Rattle.std.proofs.lemmas.List.Elements.{All-nil, All-cons, All-append, All-get_or, All-from_get_or, All-map}
use Rattle.mpc_exact.specs.Rational.{int}
use Rattle.mpc_space.specs.Vector.{coordinate}
use Rattle.mpc_space.specs.Matrix.{height}
use Rattle.mpc_space.proofs.Entries.{coordinate-listed}
use Rattle.mpc_linear.specs.declared.integers.RowInt.{RowInt}
use Rattle.mpc_sets.specs.RowSet.{IsSetOfRows}
use Rattle.mpc_rows.specs.declared.programs.Qp.{Qp}
use Rattle.mpc_rows.specs.declared.systems.Row.{Row}
use Rattle.mpc_rows.specs.LinearSystem.{entry, height as row_count, no_row as no_system_row}
use Rattle.mpc_rows.specs.RunWidth.{RunFits}
use Rattle.mpc_rows.specs.LawRows.{whole_row}
use Rattle.mpc_rows.specs.LawTheorems.{LawTheorems}
use Rattle.mpc_rows.specs.SetRuns.{axis, box_from, box_rows, region_system, RegionFits}
use Rattle.mpc_minors.specs.Lines.{most_coefficient}
use Rattle.mpc_minors.specs.SmallRows.{IsWholeUpTo, HasSmallRows}
use Rattle.mpc_quotients.specs.OverTheorems.{OverTheorems}
use Rattle.mpc_sweep.specs.declared.numbers.Swept.{Swept}
use Rattle.mpc_sweep.specs.Theorems.{RowIsReduced}
use Rattle.mpc_region.specs.Refuters.{region_rows, HasRoom}
use Rattle.mpc_region.specs.Sweeps.{rights, IsTableOf, swept_law}
use Rattle.mpc_region.specs.SweptRows.{number_from, IsRowFrom}
use Rattle.mpc_region.proofs.LawRowLists.{no_row}
use Rattle.mpc_region.proofs.SweptDivisors.{abs_negated}
use Rattle.mpc_region.proofs.SweptRows.{side_size, bound_size, at_most_times}
use Rattle.mpc_region.proofs.TableRows.{rows_are}
use Rattle.mpc_region.proofs.RefutedLaws.{table_rows, table_rows_are}

-- whole numbers of at most these sizes
record HasSmallNumbers (width most_entry most_side : ℕ) (row : Row) : Type 0 where
  entries : (j : ℕ) → j < width → IsWholeUpTo most_entry (coordinate row.a j)
  side : IsWholeUpTo most_side row.b

whole : (most : ℕ) (z : ℤ) → unsigned_abs z ≤ most → IsWholeUpTo most (int z)
whole most z h = record { z = z; is = refl; small = h }

-- ---- the rows of the box
picked : (most : ℕ) (behind before : Bool) (z : ℤ) → unsigned_abs z ≤ most → IsWholeUpTo most (cond behind (int (pos 0)) (cond before (int (pos 0)) (int z)))
picked most true before z h = whole most (pos 0) (omega arith)
picked most false true z h = whole most (pos 0) (omega arith)
picked most false false z h = whole most z h

module _ (width most_entry most_side : ℕ) (one : 1 ≤ most_entry) where
  axis_small : (i : ℕ) (z : ℤ) → unsigned_abs z ≤ most_entry → (j : ℕ) → j < width → IsWholeUpTo most_entry (coordinate (axis width i (int z)) j)
  axis_small i z h j l =
      subst (IsWholeUpTo most_entry) (sym (coordinate-listed width (λ k. cond (nat_lt i k) (int (pos 0)) (cond (nat_lt k i) (int (pos 0)) (int z))) j l)) (picked most_entry (nat_lt i j) (nat_lt j i) z h)

  box_small : (i : ℕ) (counts : List ℕ) → ((k : ℕ) → k < length counts → get_or counts k 0 ≤ most_side) → All (HasSmallNumbers width most_entry most_side) (box_from width i counts)
  box_small i [] h = All-nil (HasSmallNumbers width most_entry most_side)
  box_small i (count ∷ counts) h =
      let least : Row = record { a = axis width i (int (negsuc 0)); b = int (pos 0); strict = false } in
      let greatest : Row = record { a = axis width i (int (pos 1)); b = int (pos count); strict = false } in
      let later = box_from width (suc i) counts in
      All-cons (HasSmallNumbers width most_entry most_side) least (greatest ∷ later) (record { entries = axis_small i (negsuc 0) one; side = whole most_side (pos 0) (omega arith) })
      (All-cons (HasSmallNumbers width most_entry most_side) greatest later (record { entries = axis_small i (pos 1) one; side = whole most_side (pos count) (h 0 (omega arith)) }) (box_small (suc i) counts (λ k l. h (suc k) (omega arith))))

box_count : (width i : ℕ) (counts : List ℕ) → length (box_from width i counts) ≡ 2 * length counts
box_count width i [] = refl
box_count width i (count ∷ counts) = let e = box_count width (suc i) counts in omega arith

-- ---- the rows of the law
row_small : (f : ℕ → ℤ) (width most_entry most_side : ℕ) (row : RowInt) → IsRowFrom f width row → ((j : ℕ) → j < width → unsigned_abs (f (suc j)) ≤ most_entry) → unsigned_abs (f 0) ≤ most_side → HasSmallNumbers width most_entry most_side (whole_row row)
row_small f width most_entry most_side row i sides bound = record {
  entries = λ j h.
      let l : j < length row.a = omega (arith, i.size) in
      subst (IsWholeUpTo most_entry) (sym (get_or-map int row.a j (pos 0) (int (pos 0)) l)) (whole most_entry (get_or row.a j (pos 0)) (below most_entry (unsigned_abs (get_or row.a j (pos 0))) (suc j) (side_size f width row i j (pos 0) l) (sides j h)));
  side = whole most_side row.b (below most_side (unsigned_abs row.b) 0 (bound_size f width row i) bound);
}
  where
    below : (most m j : ℕ) → m * i.by ≡ unsigned_abs (f j) → unsigned_abs (f j) ≤ most → m ≤ most
    below most m j e h = let a = at_most_times f width row i m in omega arith

module _ (reduced : RowIsReduced) (over : OverTheorems) (single : LawTheorems) (qp : Qp) (s : List ℕ) (table : Swept) (set : IsSetOfRows (height qp.g) s) (is : IsTableOf qp s (rights qp) table) (room : HasRoom qp table) where
  abbrev width : ℕ
  width = length qp.counts

  abbrev most : ℕ
  most = most_coefficient width

  abbrev rows : List RowInt
  rows = table_rows reduced over qp s table set is

  abbrev Small : Row → Type 0
  Small = HasSmallNumbers width most (2 ^ 50)

  abbrev f : ℕ → ℕ → ℤ
  f r = number_from table (height qp.h + r) (rights qp)

  rows_small : All Small (map whole_row rows)
  rows_small = All-map Small whole_row rows (All-from_get_or (λ r. Small (whole_row r)) rows no_row (λ r h.
      let are = rows_are f width (height qp.g) in
      let l : r < height qp.g = omega (arith, are.one_each) in
      let small = room.small.rows r l in
      row_small (f r) width most (2 ^ 50) (get_or rows r no_row) (are.each r l)
      (λ j k. subst (λ n. n ≤ most) (ap unsigned_abs (cond-false (eqb j width) (f r 0) (neg_ℤ (f r (suc j))) (ne_eqb j width (λ e. omega arith))) ∙ abs_negated (f r (suc j))) (small.coefficients j k))
      (subst (λ n. n ≤ 2 ^ 50) (ap unsigned_abs (cond-true (eqb width width) (f r 0) (neg_ℤ (f r (suc width))) (eq-eqb width width refl))) small.side)))

  one_fits : 1 ≤ most
  one_fits = at_least (eqb width 2)
    where
      at_least : (b : Bool) → 1 ≤ cond b (2 ^ 30) (2 ^ 19)
      at_least true = omega arith
      at_least false = omega arith

  all_small : All Small (region_system qp rows).rows
  unfolding region_system
  all_small = All-append Small (box_rows width qp.counts) (map whole_row rows) (box_small width most (2 ^ 50) one_fits 0 qp.counts room.small.counts.each) rows_small

  system_small : HasSmallRows most (2 ^ 50) (region_system qp rows)
  unfolding region_system entry
  system_small = record {
    entries = λ i j h l. (All-get_or Small (region_system qp rows).rows i no_system_row h all_small).entries j l;
    sides = λ i h. (All-get_or Small (region_system qp rows).rows i no_system_row h all_small).side;
  }

  system_width : (region_system qp rows).width ≡ width
  unfolding region_system
  system_width = refl

  system_height : row_count (region_system qp rows) ≤ region_rows qp
  unfolding region_system
  system_height =
      let are = rows_are f width (height qp.g) in
      omega (arith, length-append (box_rows width qp.counts) (map whole_row rows), box_count width 0 qp.counts, length-map rows whole_row, are.one_each)

  pub region_fits : RegionFits qp (swept_law qp s)
  region_fits others are =
      subst (λ xs. RunFits (region_system qp xs)) (single.law_rows_unique qp (swept_law qp s) rows others (table_rows_are reduced over qp s table set is) are) (room.fits (region_system qp rows) system_width system_height system_small)
