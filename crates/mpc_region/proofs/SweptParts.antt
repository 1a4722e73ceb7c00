-- The equations of the law of a set are a part of the shared table: its rows are those at which the table is swept for the set.
use Rattle.std.proofs.Common.{◌≡◌, ℕ, ◌+◌, ◌-◌, ◌<◌, ◌≤◌, List, ◌∷◌, ◌++◌, [], length, map, get_or, take, refl, sym, ◌∙◌, ap, arith, ⊎_elim}
use Rattle.std.proofs.lemmas.Bool.{cases_lt}
use Rattle.std.proofs.lemmas.List.{append_assoc, length-append, length-map, get_or-map, get_or_append_left, get_or-append_right, map-append, take_more}
use Rattle.std.proofs.lemmas.List.FromFn.{length-range_with_len, get_or-range_with_len}
use Rattle.std.specs.List.{range_with_len}
use Rattle.mpc_space.specs.Matrix.{height}
use Rattle.mpc_space.proofs.Matrix.{entry-tabled, height-tabled, rectangular-tabled}
use Rattle.mpc_sets.specs.RowSet.{IsSetOfRows}
use Rattle.mpc_rows.specs.declared.programs.Qp.{Qp}
use Rattle.mpc_rows.specs.SetRuns.{law_entry, law_matrix, law_side, law_right}
use Rattle.mpc_sweep.specs.Sweeps.{pivot_at, AreRising}
use Rattle.mpc_sweep.specs.Theorems.{IsPartOf, AreRowsOf}
use Rattle.mpc_region.specs.Shared.{shared_entry}
use Rattle.mpc_region.specs.Sweeps.{sweeps_of, rights}
use Rattle.mpc_region.proofs.Members.{member, members_rise, member_cell}
use Rattle.mpc_region.proofs.SharedEntries.{below, above, hessian, member_column, right_column, member_line, corner, right_line}

-- ---- the rows of a set's sweeps
module _ (qp : Qp) where
  abbrev n : ℕ
  n = height qp.h

  abbrev g : ℕ
  g = height qp.g

  abbrev w : ℕ
  w = length qp.counts + 1

  abbrev at : ℕ → ℕ
  at i = n + (i - 1)

  pub sweeps_size : (s : List ℕ) → length (sweeps_of qp s) ≡ n + length s
  sweeps_size s = length-append (range_with_len 0 n) (map at s) ∙ (λ t. length-range_with_len 0 n t + length-map s at t)

  pub first_sweep : (s : List ℕ) (i : ℕ) → i < n → pivot_at (sweeps_of qp s) i ≡ i
  first_sweep s i l = get_or_append_left (range_with_len 0 n) (map at s) 0 i (omega (arith, length-range_with_len 0 n)) ∙ get_or-range_with_len 0 n i 0 l ∙ omega arith

  pub later_sweep : (s : List ℕ) (k : ℕ) → k < length s → pivot_at (sweeps_of qp s) (n + k) ≡ n + (get_or s k 0 - 1)
  later_sweep s k l =
      get_or-append_right (range_with_len 0 n) (map at s) n (n + k) 0 (length-range_with_len 0 n) (omega arith)
      ∙ (let e : n + k - n ≡ k = omega arith in ap (λ k. get_or (map at s) k 0) e)
      ∙ get_or-map at s k 0 0 l

  pub sweep_later : (s : List ℕ) (i : ℕ) → n ≤ i → i < n + length s → pivot_at (sweeps_of qp s) i ≡ n + (get_or s (i - n) 0 - 1)
  sweep_later s i a l = let e : i ≡ n + (i - n) = omega arith in ap (pivot_at (sweeps_of qp s)) e ∙ later_sweep s (i - n) (omega arith)

  -- one more member
  pub more_sweeps : (s : List ℕ) (k : ℕ) → k < length s → sweeps_of qp (take k s) ++ (n + (get_or s k 0 - 1)) ∷ [] ≡ sweeps_of qp (take (k + 1) s)
  more_sweeps s k l =
      append_assoc (range_with_len 0 n) (map at (take k s)) (map at (get_or s k 0 ∷ []))
      ∙ ap (λ ps. range_with_len 0 n ++ ps) (sym (map-append at (take k s) (get_or s k 0 ∷ [])))
      ∙ ap (sweeps_of qp) (sym (take_more s k 0 l))

  module _ (s : List ℕ) (set : IsSetOfRows g s) where
    sweep_within : (i : ℕ) → i < length (sweeps_of qp s) → pivot_at (sweeps_of qp s) i < n + g
    sweep_within i l = ⊎_elim
        (λ a. omega (arith, first_sweep s i a))
        (λ a.
        let b : i < n + length s = omega (arith, sweeps_size s) in
        let m = member g s set (i - n) (omega arith) in
        let m0 = m.0 in
        let m1 = m.1 in
        omega (arith, sweep_later s i a b))
        (cases_lt i n)

    sweeps_rise : AreRising (sweeps_of qp s)
    sweeps_rise k l a b = ⊎_elim
        (λ c. omega (arith, first_sweep s l c, first_sweep s k (omega arith)))
        (λ c.
        let d : l < n + length s = omega (arith, sweeps_size s) in
        let m = member g s set (l - n) (omega arith) in
        let m0 = m.0 in
        let later = sweep_later s l c d in
        ⊎_elim
        (λ f. omega (arith, first_sweep s k f))
        (λ f.
        let r = members_rise g s set (k - n) (l - n) (omega arith) (omega arith) in
        let q = member g s set (k - n) (omega arith) in
        let q0 = q.0 in
        omega (arith, sweep_later s k f (omega arith)))
        (cases_lt k n))
        (cases_lt l n)

    pub are_rows : AreRowsOf (rights qp) (sweeps_of qp s) (rights qp)
    are_rows = record { rising = sweeps_rise; within = sweep_within; in_front = sweep_within }

    -- ---- the part's entries, from those of the table
    abbrev ps : List ℕ
    ps = sweeps_of qp s

    table_at : (i j a b : ℕ) → pivot_at ps i ≡ a → pivot_at ps j ≡ b → shared_entry qp (pivot_at ps i) (pivot_at ps j) ≡ shared_entry qp a b
    table_at i j a b e f m = shared_entry qp (e m) (f m)

    law_is : (i j : ℕ) → i < n + length s → j < n + length s → law_entry qp s i j ≡ shared_entry qp (pivot_at ps i) (pivot_at ps j)
    law_is i j hi hj = ⊎_elim (λ a. ⊎_elim (upper_left a) (upper_right a) (cases_lt j n)) (λ a. ⊎_elim (lower_left a) (lower_right a) (cases_lt j n)) (cases_lt i n)
      where
        upper_left : i < n → j < n → law_entry qp s i j ≡ shared_entry qp (pivot_at ps i) (pivot_at ps j)
        upper_left a b = below i n _ _ a ∙ below j n _ _ b ∙ sym (table_at i j i j (first_sweep s i a) (first_sweep s j b) ∙ hessian qp i j a b)

        upper_right : i < n → n ≤ j → law_entry qp s i j ≡ shared_entry qp (pivot_at ps i) (pivot_at ps j)
        upper_right a b =
            let m = member g s set (j - n) (omega arith) in
            below i n _ _ a ∙ above j n _ _ b ∙ sym (member_cell qp.g.rows s (j - n) (get_or s (j - n) 0) i (omega arith) refl)
            ∙ sym (table_at i j i (n + (get_or s (j - n) 0 - 1)) (first_sweep s i a) (sweep_later s j b hj) ∙ member_column qp i (get_or s (j - n) 0) a m.0 m.1)

        lower_left : n ≤ i → j < n → law_entry qp s i j ≡ shared_entry qp (pivot_at ps i) (pivot_at ps j)
        lower_left a b =
            above i n _ _ a ∙ below j n _ _ b ∙ sym (member_cell qp.g.rows s (i - n) (get_or s (i - n) 0) j (omega arith) refl)
            ∙ sym (table_at i j (n + (get_or s (i - n) 0 - 1)) j (sweep_later s i a hi) (first_sweep s j b) ∙ member_line qp (get_or s (i - n) 0) j b)

        lower_right : n ≤ i → n ≤ j → law_entry qp s i j ≡ shared_entry qp (pivot_at ps i) (pivot_at ps j)
        lower_right a b =
            let k = member g s set (j - n) (omega arith) in
            let k0 = k.0 in
            let k1 = k.1 in
            above i n _ _ a ∙ above j n _ _ b
            ∙ sym (table_at i j (n + (get_or s (i - n) 0 - 1)) (n + (get_or s (j - n) 0 - 1)) (sweep_later s i a hi) (sweep_later s j b hj)
            ∙ corner qp (n + (get_or s (i - n) 0 - 1)) (n + (get_or s (j - n) 0 - 1)) (omega arith) (omega arith) (omega arith))

    side_is : (i j : ℕ) → i < n + length s → law_side qp s i j ≡ shared_entry qp (pivot_at ps i) (rights qp + j)
    side_is i j hi = ⊎_elim upper lower (cases_lt i n)
      where
        upper : i < n → law_side qp s i j ≡ shared_entry qp (pivot_at ps i) (rights qp + j)
        upper a = below i n _ _ a ∙ sym (ap (λ r. shared_entry qp r (rights qp + j)) (first_sweep s i a) ∙ right_column qp i j a)

        lower : n ≤ i → law_side qp s i j ≡ shared_entry qp (pivot_at ps i) (rights qp + j)
        lower a =
            above i n _ _ a ∙ sym (member_cell qp.w.rows s (i - n) (get_or s (i - n) 0) j (omega arith) refl)
            ∙ sym (ap (λ r. shared_entry qp r (rights qp + j)) (sweep_later s i a hi) ∙ right_line qp (get_or s (i - n) 0) j)

    pub is_part_of : IsPartOf (shared_entry qp) ps (rights qp) w (law_matrix qp s) (law_right qp s)
    unfolding law_matrix law_right
    is_part_of = record {
      shape = record {
        rows_are = height-tabled (n + length s) (n + length s) (law_entry qp s) ∙ sym (sweeps_size s);
        columns_are = sym (sweeps_size s);
        rectangular = rectangular-tabled (n + length s) (n + length s) (law_entry qp s);
      };
      right_shape = record {
        rows_are = height-tabled (n + length s) w (law_side qp s) ∙ sym (sweeps_size s);
        columns_are = refl;
        rectangular = rectangular-tabled (n + length s) w (law_side qp s);
      };
      entries = λ i j hi hj.
          let hi' : i < n + length s = omega (arith, sweeps_size s) in
          let hj' : j < n + length s = omega (arith, sweeps_size s) in
          entry-tabled (n + length s) (n + length s) (law_entry qp s) i j hi' hj' ∙ law_is i j hi' hj';
      right_entries = λ i j hi hj.
          let hi' : i < n + length s = omega (arith, sweeps_size s) in
          entry-tabled (n + length s) w (law_side qp s) i j hi' hj ∙ side_is i j hi';
    }
