-- The forms of the law that a swept table shows.
use Rattle.std.proofs.Common.{◌≡◌, ◌≢◌, ℕ, ◌+◌, ◌-◌, ◌<◌, ◌≤◌, true, false, List, [], ◌∷◌, length, get_or, pos, negsuc, refl, sym, ◌∙◌, ap, arith, ⊎_elim}
use Rattle.std.proofs.lemmas.Bool.{cases_lt, cond-true, cond-false, cases_Bool}
use Rattle.std.proofs.lemmas.List.FromFn.{get_or-map-range_with_len}
use Rattle.mpc_exact.specs.Rational.{ℚ, int, neg_ℚ, ◌+ℚ◌, ◌-ℚ◌, ◌*ℚ◌}
use Rattle.mpc_exact.proofs.Rational.{+ℚ_zero}
use Rattle.mpc_exact.proofs.RationalRing.{reads, by_ring}
use Rattle.mpc_space.specs.Total.{total}
use Rattle.mpc_space.specs.Vector.{coordinate, column, dot, listed, vec_scale}
use Rattle.mpc_space.specs.Matrix.{height, tabled}
use Rattle.mpc_space.proofs.Total.{total-same, total-split, total-zeros}
use Rattle.mpc_space.proofs.Entries.{coordinate-listed, length-listed, coordinate-scale, length-scale, dot-total_within}
use Rattle.mpc_space.proofs.Matrix.{entry-tabled, coordinate-column}
use Rattle.mpc_sets.specs.RowSet.{IsSetOfRows}
use Rattle.mpc_rows.specs.declared.programs.Qp.{Qp}
use Rattle.mpc_rows.specs.declared.laws.Law.{Law}
use Rattle.mpc_rows.specs.ActiveSets.{row_of}
use Rattle.mpc_rows.specs.LawRows.{is_member, place_of, excess_form, law_form}
use Rattle.mpc_sweep.specs.Sweeps.{swept, pivot_at, AreRising, HasPivots}
use Rattle.mpc_sweep.specs.Theorems.{RowIsReduced}
use Rattle.mpc_region.specs.Shared.{shared_entry}
use Rattle.mpc_region.specs.Sweeps.{sweeps_of, rights, swept_law}
use Rattle.mpc_region.proofs.Members.{member, row_within, member_place, not_member}
use Rattle.mpc_region.proofs.SharedEntries.{member_line, corner, right_line}
use Rattle.mpc_region.proofs.SweptParts.{sweeps_size, first_sweep, later_sweep, sweep_later}

turned : (y : ℚ) → int (negsuc 0) *ℚ y ≡ neg_ℚ y
turned y = by_ring (y ∷ []) (search reads depth 30) (search reads depth 30) tt

differed : (w d : ℚ) → neg_ℚ w +ℚ d ≡ neg_ℚ (w -ℚ d)
differed w d = by_ring (w ∷ d ∷ []) (search reads depth 30) (search reads depth 30) tt

vanished : (x : ℚ) → int (pos 0) *ℚ x ≡ int (pos 0)
vanished x = by_ring (x ∷ []) (search reads depth 30) (search reads depth 30) tt

-- ---- the law
abbrev pub shown_law : Qp → List ℕ → Law
shown_law qp s = record {
  set = s;
  moves = tabled (height qp.h) (length qp.counts + 1) (λ i j. swept (shared_entry qp) (sweeps_of qp s) i (rights qp + j));
  mults = tabled (length s) (length qp.counts + 1) (λ k j. swept (shared_entry qp) (sweeps_of qp s) (height qp.h + (get_or s k 0 - 1)) (rights qp + j));
}

pub swept_law_is : (qp : Qp) (s : List ℕ) → swept_law qp s ≡ shown_law qp s
unfolding swept_law
swept_law_is qp s = refl

pub move_entry : (qp : Qp) (s : List ℕ) (k j : ℕ) → k < height qp.h → j < length qp.counts + 1 → coordinate (column (shown_law qp s).moves.rows j) k ≡ swept (shared_entry qp) (sweeps_of qp s) k (rights qp + j)
move_entry qp s k j h l =
    coordinate-column (shown_law qp s).moves.rows k j ∙ entry-tabled (height qp.h) (length qp.counts + 1) (λ i j. swept (shared_entry qp) (sweeps_of qp s) i (rights qp + j)) k j h l

pub row_length : (qp : Qp) (i : ℕ) → length (row_of qp.g.rows i) ≤ height qp.h
row_length qp i = let q = qp.is_program.g_shape in row_within qp.g (height qp.h) (i - 1) q.rectangular q.columns_are

form_outside : (qp : Qp) (law : Law) (i : ℕ) → is_member i law.set ≡ false → law_form qp law i ≡ excess_form qp law i
unfolding law_form
form_outside qp law i e = cond-false (is_member i law.set) (vec_scale (int (negsuc 0)) (get_or law.mults.rows (place_of i law.set) [])) (excess_form qp law i) e

form_member : (qp : Qp) (law : Law) (i : ℕ) → is_member i law.set ≡ true → law_form qp law i ≡ vec_scale (int (negsuc 0)) (get_or law.mults.rows (place_of i law.set) [])
unfolding law_form
form_member qp law i e = cond-true (is_member i law.set) (vec_scale (int (negsuc 0)) (get_or law.mults.rows (place_of i law.set) [])) (excess_form qp law i) e

module _ (reduced : RowIsReduced) (qp : Qp) (s : List ℕ) (set : IsSetOfRows (height qp.g) s) (rising : AreRising (sweeps_of qp s)) (pivots : HasPivots (shared_entry qp) (sweeps_of qp s)) where
  abbrev n : ℕ
  n = height qp.h

  abbrev m : ℕ
  m = height qp.g

  abbrev w : ℕ
  w = length qp.counts + 1

  abbrev ps : List ℕ
  ps = sweeps_of qp s

  abbrev sw : ℕ → ℕ → ℚ
  sw = swept (shared_entry qp) ps

  abbrev law : Law
  law = shown_law qp s

  -- ---- the row i of g and w
  module _ (i : ℕ) (from_one : 1 ≤ i) (to_last : i ≤ m) where
    -- a row outside the set isn't swept
    module _ (outside : is_member i s ≡ false) where
      unswept : (k : ℕ) → k < length ps → n + (i - 1) ≢ pivot_at ps k
      unswept k h e = ⊎_elim
          (λ l. let a = first_sweep qp s k l in absurd (omega arith))
          (λ l.
          let k' : k - n < length s = omega (arith, sweeps_size qp s) in
          let a = sweep_later qp s k l (omega arith) in
          let b = (member m s set (k - n) k').0 in
          not_member s i (k - n) outside k' (omega arith))
          (cases_lt k n)

      first_terms : (j : ℕ) → j < w → total n (λ k. shared_entry qp (n + (i - 1)) (pivot_at ps k) *ℚ sw (pivot_at ps k) (rights qp + j)) ≡ dot (row_of qp.g.rows i) (column law.moves.rows j)
      first_terms j l =
          total-same n (λ k. shared_entry qp (n + (i - 1)) (pivot_at ps k) *ℚ sw (pivot_at ps k) (rights qp + j)) (λ k. coordinate (row_of qp.g.rows i) k *ℚ coordinate (column law.moves.rows j) k)
          (λ k h. ap (λ p. shared_entry qp (n + (i - 1)) p *ℚ sw p (rights qp + j)) (first_sweep qp s k h) ∙ (λ u. member_line qp i k h u *ℚ sym (move_entry qp s k j h l) u))
          ∙ sym (dot-total_within n (row_of qp.g.rows i) (column law.moves.rows j) (row_length qp i))

      later_terms : (j : ℕ) → total (length s) (λ k. shared_entry qp (n + (i - 1)) (pivot_at ps (n + k)) *ℚ sw (pivot_at ps (n + k)) (rights qp + j)) ≡ int (pos 0)
      later_terms j = total-zeros (length s) (λ k. shared_entry qp (n + (i - 1)) (pivot_at ps (n + k)) *ℚ sw (pivot_at ps (n + k)) (rights qp + j))
          (λ k h.
          let b = member m s set k h in
          let b0 = b.0 in
          let b1 = b.1 in
          ap (λ u. u *ℚ sw (pivot_at ps (n + k)) (rights qp + j)) (ap (shared_entry qp (n + (i - 1))) (later_sweep qp s k h) ∙ corner qp (n + (i - 1)) (n + (get_or s k 0 - 1)) (omega arith) (omega arith) (omega arith))
          ∙ vanished (sw (pivot_at ps (n + k)) (rights qp + j)))

      outside_row : (j : ℕ) → j < w → sw (n + (i - 1)) (rights qp + j) ≡ coordinate (row_of qp.w.rows i) j -ℚ dot (row_of qp.g.rows i) (column law.moves.rows j)
      outside_row j l =
          reduced (shared_entry qp) ps (n + (i - 1)) (rights qp + j) rising pivots unswept
          ∙ (λ u. right_line qp i j u -ℚ (ap (λ c. total c (λ k. shared_entry qp (n + (i - 1)) (pivot_at ps k) *ℚ sw (pivot_at ps k) (rights qp + j))) (sweeps_size qp s)
          ∙ total-split n (length s) (λ k. shared_entry qp (n + (i - 1)) (pivot_at ps k) *ℚ sw (pivot_at ps k) (rights qp + j))
          ∙ (λ v. first_terms j l v +ℚ later_terms j v) ∙ +ℚ_zero (dot (row_of qp.g.rows i) (column law.moves.rows j))) u)

      outside_at : (j : ℕ) → j < w → coordinate (law_form qp law i) j ≡ neg_ℚ (sw (n + (i - 1)) (rights qp + j))
      outside_at j l =
          ap (λ f. coordinate f j) (form_outside qp law i outside)
          ∙ coordinate-listed w (λ j. neg_ℚ (coordinate (row_of qp.w.rows i) j) +ℚ dot (row_of qp.g.rows i) (column law.moves.rows j)) j l
          ∙ differed (coordinate (row_of qp.w.rows i) j) (dot (row_of qp.g.rows i) (column law.moves.rows j)) ∙ ap neg_ℚ (sym (outside_row j l))

      outside_size : length (law_form qp law i) ≡ w
      outside_size = ap length (form_outside qp law i outside) ∙ length-listed w (λ j. neg_ℚ (coordinate (row_of qp.w.rows i) j) +ℚ dot (row_of qp.g.rows i) (column law.moves.rows j))

    -- a member's row is that of its multiplier
    module _ (inside : is_member i s ≡ true) where
      abbrev place : ℕ
      place = place_of i s

      mult_row : get_or law.mults.rows place [] ≡ listed w (λ j. sw (n + (i - 1)) (rights qp + j))
      mult_row =
          let p = member_place s i inside in
          get_or-map-range_with_len (λ k. listed w (λ j. sw (n + (get_or s k 0 - 1)) (rights qp + j))) 0 (length s) place place [] p.0 (omega arith)
          ∙ ap (λ k. listed w (λ j. sw (n + (k - 1)) (rights qp + j))) p.1

      inside_at : (j : ℕ) → j < w → coordinate (law_form qp law i) j ≡ neg_ℚ (sw (n + (i - 1)) (rights qp + j))
      inside_at j l =
          ap (λ f. coordinate f j) (form_member qp law i inside) ∙ coordinate-scale (int (negsuc 0)) (get_or law.mults.rows place []) j
          ∙ turned (coordinate (get_or law.mults.rows place []) j) ∙ ap neg_ℚ (ap (λ f. coordinate f j) mult_row ∙ coordinate-listed w (λ j. sw (n + (i - 1)) (rights qp + j)) j l)

      inside_size : length (law_form qp law i) ≡ w
      inside_size =
          ap length (form_member qp law i inside) ∙ length-scale (int (negsuc 0)) (get_or law.mults.rows place []) ∙ ap length mult_row
          ∙ length-listed w (λ j. sw (n + (i - 1)) (rights qp + j))

    -- ---- the form of the law's row
    pub form_at : (j : ℕ) → j < w → coordinate (law_form qp law i) j ≡ neg_ℚ (sw (n + (i - 1)) (rights qp + j))
    form_at j l = ⊎_elim (λ e. inside_at e j l) (λ e. outside_at e j l) (cases_Bool (is_member i s))

    pub form_size : length (law_form qp law i) ≡ w
    form_size = ⊎_elim (λ e. inside_size e) (λ e. outside_size e) (cases_Bool (is_member i s))
