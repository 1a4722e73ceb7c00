-- A law whose rows no point of the box meets, as the numbers of the table say them, has no region.
use Rattle.std.proofs.Common.{◌≡◌, ℕ, zero, suc, ◌+◌, ◌-◌, ◌*◌, ◌/◌, ◌%◌, ◌<◌, ◌≤◌, ◌++◌, Bool, true, false, cond, eqb, nat_lt, List, [], ◌∷◌, length, map, get_or, ℤ, pos, negsuc, neg_ℤ, refl, sym, ◌∙◌, ap, subst, subst₂, arith, ⊎_elim, eq-eqb, ne_eqb}
use Rattle.std.proofs.lemmas.Bool.{cond-true, cond-false, cases_eq, cases_lt, lt-ltb, le-ltb}
use Rattle.std.proofs.lemmas.List.{length-map, get_or-map, get_or-append-add, length-append}
use Rattle.std.proofs.lemmas.List.Elements.{All-get_or}
use Rattle.mpc_exact.specs.Rational.{ℚ, int, ◌*ℚ◌, ◌≤ℚ◌}
use Rattle.mpc_exact.proofs.Rational.{int-mul, *ℚ_comm}
use Rattle.mpc_exact.proofs.RationalRing.{reads, by_ring}
use Rattle.mpc_exact.proofs.RationalOrder.{nonneg_int, gap, by_le, *ℚ-≤ℚ}
use Rattle.mpc_space.specs.Vector.{coordinate, dot}
use Rattle.mpc_space.specs.Matrix.{height}
use Rattle.mpc_space.specs.Total.{total, unit}
use Rattle.mpc_space.proofs.Total.{total-same, total-scale, total-unit, unit-same, unit-other}
use Rattle.mpc_space.proofs.Entries.{dot-total_within}
use Rattle.mpc_linear.specs.declared.integers.RowInt.{RowInt}
use Rattle.mpc_sets.specs.RowSet.{IsSetOfRows}
use Rattle.mpc_rows.specs.declared.programs.Qp.{Qp}
use Rattle.mpc_rows.specs.LinearSystem.{MeetsRow, IsPoint, no_row as no_system_row}
use Rattle.mpc_rows.specs.ActiveSets.{IsInBox}
use Rattle.mpc_rows.specs.Laws.{IsLaw, HasRegion}
use Rattle.mpc_rows.specs.LawRows.{AreLawRows, whole_row}
use Rattle.mpc_rows.specs.SetRuns.{box_rows, region_system}
use Rattle.mpc_rows.specs.RegionTheorems.{RegionTheorems}
use Rattle.mpc_quotients.specs.OverTheorems.{OverTheorems}
use Rattle.mpc_sweep.specs.declared.numbers.Swept.{Swept}
use Rattle.mpc_sweep.specs.Theorems.{RowIsReduced}
use Rattle.mpc_region.specs.Refuters.{box_coefficient, box_side, box_number, law_number, region_number, MeetsAt, ShowsNone}
use Rattle.mpc_region.specs.Sweeps.{rights, IsTableOf, swept_law}
use Rattle.mpc_region.specs.SweptRows.{number_from, IsRowFrom}
use Rattle.mpc_region.proofs.LawRowLists.{no_row}
use Rattle.mpc_region.proofs.SweptLawRows.{law_rows}
use Rattle.mpc_region.proofs.TableRows.{rows_of, rows_are}

-- ---- the rows of the box
bounds_at : (counts : List ℕ) (t : List ℚ) → IsInBox counts t → (i : ℕ) → i < length counts → (int (pos 0) ≤ℚ coordinate t i) × (coordinate t i ≤ℚ int (pos (get_or counts i 0)))
bounds_at [] t b i h = absurd (omega arith)
bounds_at (n ∷ counts) [] b i h = absurd b
bounds_at (n ∷ counts) (x ∷ t) b zero h = (b.0, b.1)
bounds_at (n ∷ counts) (x ∷ t) b (suc i) h = bounds_at counts t b.2 i (omega arith)

plain : (x q : ℚ) → x ≤ℚ q → (int (pos 1) *ℚ x) ≤ℚ q
plain x q h = by_le (x ∷ q ∷ []) (gap h) (search reads depth 30) (search reads depth 30) tt

side_met : (least : Bool) (x : ℚ) (n : ℕ) → int (pos 0) ≤ℚ x → x ≤ℚ int (pos n) → (int (cond least (negsuc 0) (pos 1)) *ℚ x) ≤ℚ int (cond least (pos 0) (pos n))
side_met true x n low high = by_le (x ∷ []) (gap low) (search reads depth 30) (search reads depth 30) tt
side_met false x n low high = plain x (int (pos n)) high

one_term : (q x : ℚ) → q *ℚ x ≡ q *ℚ (int (pos 1) *ℚ x)
one_term q x = by_ring (q ∷ x ∷ []) (search reads depth 30) (search reads depth 30) tt

no_term : (q x : ℚ) → int (pos 0) *ℚ x ≡ q *ℚ (int (pos 0) *ℚ x)
no_term q x = by_ring (q ∷ x ∷ []) (search reads depth 30) (search reads depth 30) tt

-- its row has one coefficient
module _ (row : ℕ) where
  abbrev sign : ℤ
  sign = cond (eqb (row % 2) 0) (negsuc 0) (pos 1)

  box_term : (j : ℕ) (x : ℚ) → int (box_coefficient row j) *ℚ x ≡ int sign *ℚ (unit (row / 2) j *ℚ x)
  box_term j x = ⊎_elim
      (λ e. ap (λ z. int z *ℚ x) (cond-true (eqb j (row / 2)) sign (pos 0) (eq-eqb j (row / 2) e)) ∙ one_term (int sign) x ∙ ap (λ u. int sign *ℚ (u *ℚ x)) (sym (unit-same (row / 2) j (sym e))))
      (λ e. ap (λ z. int z *ℚ x) (cond-false (eqb j (row / 2)) sign (pos 0) (ne_eqb j (row / 2) e)) ∙ no_term (int sign) x
      ∙ ap (λ u. int sign *ℚ (u *ℚ x)) (sym (unit-other (row / 2) j (λ o. e (sym o)))))
      (cases_eq j (row / 2))

  box_total : (w : ℕ) (x : ℕ → ℚ) → row / 2 < w → total w (λ j. int (box_coefficient row j) *ℚ x j) ≡ int sign *ℚ x (row / 2)
  box_total w x h =
      total-same w (λ j. int (box_coefficient row j) *ℚ x j) (λ j. int sign *ℚ (unit (row / 2) j *ℚ x j)) (λ j l. box_term j (x j))
      ∙ total-scale w (int sign) (λ j. unit (row / 2) j *ℚ x j) ∙ ap (λ u. int sign *ℚ u) (total-unit w (row / 2) x h)

  box_met : (counts : List ℕ) (t : List ℚ) → IsInBox counts t → row / 2 < length counts → total (length counts) (λ j. int (box_coefficient row j) *ℚ coordinate t j) ≤ℚ int (box_side counts row)
  box_met counts t b h =
      let p = bounds_at counts t b (row / 2) h in
      subst (λ u. u ≤ℚ int (box_side counts row)) (sym (box_total (length counts) (coordinate t) h)) (side_met (eqb (row % 2) 0) (coordinate t (row / 2)) (get_or counts (row / 2) 0) p.0 p.1)

-- ---- the rows of the law
regrouped : (k a x : ℚ) → k *ℚ (a *ℚ x) ≡ (a *ℚ k) *ℚ x
regrouped k a x = by_ring (k ∷ a ∷ x ∷ []) (search reads depth 30) (search reads depth 30) tt

module _ (f : ℕ → ℤ) (w : ℕ) (row : RowInt) (i : IsRowFrom f w row) (t : List ℚ) where
  abbrev by : ℚ
  by = int (pos i.by)

  term : (j : ℕ) → j < w → by *ℚ (coordinate (map int row.a) j *ℚ coordinate t j) ≡ int (neg_ℤ (f (suc j))) *ℚ coordinate t j
  term j l =
      let h : j < length row.a = omega (arith, i.size) in
      let a = get_or row.a j (pos 0) in
      let x = coordinate t j in
      ap (λ u. by *ℚ (u *ℚ x)) (get_or-map int row.a j (pos 0) (int (pos 0)) h) ∙ regrouped by (int a) x ∙ ap (λ u. u *ℚ x) (sym (int-mul a (pos i.by)) ∙ ap int (i.sides.each j h))

  left : by *ℚ dot (map int row.a) t ≡ total w (λ j. int (neg_ℤ (f (suc j))) *ℚ coordinate t j)
  left =
      ap (λ u. by *ℚ u) (dot-total_within w (map int row.a) t (omega (arith, length-map row.a int, i.size))) ∙ sym (total-scale w by (λ j. coordinate (map int row.a) j *ℚ coordinate t j))
      ∙ total-same w (λ j. by *ℚ (coordinate (map int row.a) j *ℚ coordinate t j)) (λ j. int (neg_ℤ (f (suc j))) *ℚ coordinate t j) term

  right : by *ℚ int row.b ≡ int (f 0)
  right = *ℚ_comm by (int row.b) ∙ sym (int-mul row.b (pos i.by)) ∙ ap int i.bound

  row_met : MeetsRow t (whole_row row) → total w (λ j. int (neg_ℤ (f (suc j))) *ℚ coordinate t j) ≤ℚ int (f 0)
  row_met met = subst₂ (λ u v. u ≤ℚ v) left right (*ℚ-≤ℚ (nonneg_int i.by) met)

behind_box : (qp : Qp) (rows : List RowInt) (t : List ℚ) → IsPoint (region_system qp rows) t → (r : ℕ) → r < length rows → MeetsRow t (whole_row (get_or rows r no_row))
unfolding region_system
behind_box qp rows t p r h =
    let box = box_rows (length qp.counts) qp.counts in
    subst (MeetsRow t) (get_or-append-add box (map whole_row rows) r no_system_row ∙ get_or-map whole_row rows r no_row no_system_row h)
    (All-get_or (MeetsRow t) (box ++ map whole_row rows) (length box + r) no_system_row (omega (arith, length-append box (map whole_row rows), length-map rows whole_row)) p.meets)

-- ---- as the numbers say them
module _ (qp : Qp) (table : Swept) where
  abbrev w : ℕ
  w = length qp.counts

  abbrev first : ℕ → ℕ → ℤ
  first r = number_from table (height qp.h + r) (rights qp)

  not_last : (j : ℕ) → j < w → eqb j w ≡ false
  not_last j h = ne_eqb j w (λ e. omega arith)

  -- the sum and the side of a row, from those of its numbers
  met_by : (t : List ℚ) (row : ℕ) (sides : ℕ → ℤ) (bound : ℤ) → ((j : ℕ) → j < w → region_number qp table row j ≡ sides j) → region_number qp table row w ≡ bound → total w (λ j. int (sides j) *ℚ coordinate t j) ≤ℚ int bound → MeetsAt qp table (coordinate t) row
  met_by t row sides bound e f met =
      subst₂ (λ u v. u ≤ℚ v) (total-same w (λ j. int (sides j) *ℚ coordinate t j) (λ j. int (region_number qp table row j) *ℚ coordinate t j) (λ j l. ap (λ z. int z *ℚ coordinate t j) (sym (e j l)))) (ap int (sym f)) met

  box_meets : (t : List ℚ) → IsInBox qp.counts t → (row : ℕ) → row < 2 * w → MeetsAt qp table (coordinate t) row
  box_meets t b row h = met_by t row (box_coefficient row) (box_side qp.counts row)
      (λ j l. of_box j ∙ cond-false (eqb j w) (box_side qp.counts row) (box_coefficient row j) (not_last j l))
      (of_box w ∙ cond-true (eqb w w) (box_side qp.counts row) (box_coefficient row w) (eq-eqb w w refl))
      (box_met row qp.counts t b (omega arith))
    where
      of_box : (j : ℕ) → region_number qp table row j ≡ box_number qp.counts row j
      of_box j = cond-true (nat_lt row (2 * w)) (box_number qp.counts row j) (law_number qp table (row - 2 * w) j) (lt-ltb row (2 * w) h)

  law_meets : (t : List ℚ) (row : ℕ) → 2 * w ≤ row → total w (λ j. int (neg_ℤ (first (row - 2 * w) (suc j))) *ℚ coordinate t j) ≤ℚ int (first (row - 2 * w) 0) → MeetsAt qp table (coordinate t) row
  law_meets t row h met =
      let r = row - 2 * w in
      met_by t row (λ j. neg_ℤ (first r (suc j))) (first r 0)
      (λ j l. of_law j ∙ cond-false (eqb j w) (first r 0) (neg_ℤ (first r (suc j))) (not_last j l))
      (of_law w ∙ cond-true (eqb w w) (first r 0) (neg_ℤ (first r (suc w))) (eq-eqb w w refl))
      met
    where
      of_law : (j : ℕ) → region_number qp table row j ≡ law_number qp table (row - 2 * w) j
      of_law j = cond-false (nat_lt row (2 * w)) (box_number qp.counts row j) (law_number qp table (row - 2 * w) j) (le-ltb row (2 * w) h)

module _ (reduced : RowIsReduced) (over : OverTheorems) (qp : Qp) (s : List ℕ) (table : Swept) (set : IsSetOfRows (height qp.g) s) (is : IsTableOf qp s (rights qp) table) where
  -- the rows of the law, without common divisors
  abbrev pub table_rows : List RowInt
  table_rows = rows_of (first qp table) (length qp.counts) (height qp.g)

  pub table_rows_are : AreLawRows qp (swept_law qp s) table_rows
  table_rows_are = law_rows reduced over qp s table set is (height qp.g) table_rows refl (rows_are (first qp table) (length qp.counts) (height qp.g))

  pub no_region : RegionTheorems → IsLaw qp (swept_law qp s) → ShowsNone qp table → ¬ HasRegion qp (swept_law qp s)
  no_region points law shown region =
      let t = region.point in
      shown.none (coordinate t) (λ row h. ⊎_elim (λ l. box_meets qp table t region.within.in_box row l) (λ l. of_law t ((points.region_points qp (swept_law qp s) law table_rows table_rows_are t).0 region.within) row l (omega arith)) (cases_lt row (2 * length qp.counts)))
    where
      of_law : (t : List ℚ) → IsPoint (region_system qp table_rows) t → (row : ℕ) → 2 * length qp.counts ≤ row → row - 2 * length qp.counts < height qp.g → MeetsAt qp table (coordinate t) row
      of_law t is_point row l h =
          let r = row - 2 * length qp.counts in
          let are = rows_are (first qp table) (length qp.counts) (height qp.g) in
          law_meets qp table t row l (row_met (first qp table r) (length qp.counts) (get_or table_rows r no_row) (are.each r h) t (behind_box qp table_rows t is_point r (omega (arith, are.one_each))))
