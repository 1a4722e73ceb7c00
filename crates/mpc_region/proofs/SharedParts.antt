-- The equations of the law of a set are a part of the shared table: the places of its members are where the table is swept for the set.
use Rattle.std.proofs.Common.{◌≡◌, ℕ, ◌+◌, ◌-◌, ◌<◌, ◌≤◌, List, [], ◌∷◌, ◌++◌, length, get_or, refl, sym, ◌∙◌, ap, subst, arith, ⊎_elim}
use Rattle.std.proofs.Math.Seq.{get_or-append_seam}
use Rattle.std.proofs.lemmas.Bool.{cases_lt, cases_eq}
use Rattle.std.proofs.lemmas.List.{length-append, get_or_append_left, get_or-append_right}
use Rattle.mpc_space.specs.Matrix.{height, entry}
use Rattle.mpc_sets.specs.RowSet.{IsSetOfRows}
use Rattle.mpc_rows.specs.declared.programs.Qp.{Qp}
use Rattle.mpc_rows.specs.SetRuns.{law_matrix, law_right}
use Rattle.mpc_bordered.specs.Parts.{place, part, ArePlaces, IsPart}
use Rattle.mpc_sweep.specs.Sweeps.{pivot_at}
use Rattle.mpc_sweep.specs.Theorems.{IsPartOf}
use Rattle.mpc_systems.specs.Equations.{AreMemberPlaces}
use Rattle.mpc_region.specs.Shared.{shared_entry, shared_table, AreSidePlaces}
use Rattle.mpc_region.specs.Sweeps.{sweeps_of, rights, all_columns}
use Rattle.mpc_region.proofs.Members.{member}
use Rattle.mpc_region.proofs.SharedEntries.{below, above, shared_height, shared_columns, shared_at}
use Rattle.mpc_region.proofs.SweptParts.{sweeps_size, first_sweep, sweep_later, are_rows, is_part_of}

-- one more column
pub sides_more : (first k : ℕ) (places new : List ℕ) (p : ℕ) → AreSidePlaces first k places → p ≡ first + k → new ≡ places ++ p ∷ [] → AreSidePlaces first (k + 1) new
sides_more first k places new p are e n = subst (AreSidePlaces first (k + 1)) (sym n) (record {
  size = omega (arith, length-append places (p ∷ []), are.size);
  at = λ j h. ⊎_elim
      (λ q. ap (λ i. get_or (places ++ p ∷ []) i 0) (q ∙ sym are.size) ∙ get_or-append_seam places p [] 0 ∙ e ∙ ap (λ i. first + i) (sym q))
      (λ q. get_or_append_left places (p ∷ []) 0 j (omega (arith, are.size)) ∙ are.at j (omega arith))
      (cases_eq j k);
})

module _ (qp : Qp) (s places sides : List ℕ) (set : IsSetOfRows (height qp.g) s) (at : AreMemberPlaces (height qp.h) s places) (side_at : AreSidePlaces (rights qp) (length qp.counts + 1) sides) where
  abbrev n : ℕ
  n = height qp.h

  abbrev w : ℕ
  w = length qp.counts + 1

  abbrev ps : List ℕ
  ps = sweeps_of qp s

  place_bounds : (k : ℕ) → k < length places → (n ≤ get_or places k 0) × (get_or places k 0 < rights qp)
  place_bounds k l =
      let l' : k < length s = omega (arith, at.size) in
      let e = at.at k l' in
      let m = member (height qp.g) s set k l' in
      let m0 = m.0 in
      let m1 = m.1 in
      (omega arith, omega arith)

  side_place : (k : ℕ) → k < length sides → (get_or sides k 0 ≡ rights qp + k) × (k < w)
  side_place k l = let l' : k < w = omega (arith, side_at.size) in (side_at.at k l', l')

  pub are_places : ArePlaces (shared_table qp) n places sides
  are_places = record {
    behind = λ k l. (place_bounds k l).0;
    within = λ k l. let b = (place_bounds k l).1 in omega (arith, shared_height qp);
    columns_within = λ k l. let b = (place_bounds k l).1 in omega (arith, shared_columns qp);
    rights_behind = λ k l. let e = (side_place k l).0 in omega arith;
    rights_within = λ k l. let e = (side_place k l).0 in let b = (side_place k l).1 in omega (arith, shared_columns qp);
  }

  -- ---- the rows and the columns of the part
  size : length places ≡ length s
  size = at.size

  row_is : (i : ℕ) → i < n + length s → place n places i ≡ pivot_at ps i
  row_is i l = ⊎_elim
      (λ a. below i n _ _ a ∙ sym (first_sweep qp s i a))
      (λ a. above i n _ _ a ∙ at.at (i - n) (omega arith) ∙ sym (sweep_later qp s i a l))
      (cases_lt i n)

  column_is : (j : ℕ) → j < n + length s → place n (places ++ sides) j ≡ pivot_at ps j
  column_is j l = ⊎_elim
      (λ a. below j n _ _ a ∙ sym (first_sweep qp s j a))
      (λ a. above j n _ _ a ∙ get_or_append_left places sides 0 (j - n) (omega (arith, size)) ∙ at.at (j - n) (omega arith) ∙ sym (sweep_later qp s j a l))
      (cases_lt j n)

  side_is : (j : ℕ) → j < w → place n (places ++ sides) (n + length places + j) ≡ rights qp + j
  side_is j l =
      above (n + length places + j) n _ _ (omega arith)
      ∙ get_or-append_right places sides (length places) (n + length places + j - n) 0 refl (omega arith)
      ∙ (let e : n + length places + j - n - length places ≡ j = omega arith in ap (λ k. get_or sides k 0) e)
      ∙ side_at.at j l

  swept_row : (i : ℕ) → i < n + length s → pivot_at ps i < rights qp
  swept_row i l = (are_rows qp s set).within i (omega (arith, sweeps_size qp s))

  part_at : (i j b : ℕ) → i < n + length s → place n (places ++ sides) j ≡ b → b < all_columns qp → part (entry (shared_table qp)) n places sides i j ≡ shared_entry qp (pivot_at ps i) b
  unfolding part
  part_at i j b l e h = (λ m. entry (shared_table qp) (row_is i l m) (e m)) ∙ shared_at qp (pivot_at ps i) b (swept_row i l) h

  count : length ps ≡ n + length places
  count = sweeps_size qp s ∙ ap (λ k. n + k) (sym size)

  abbrev of_sweeps : IsPartOf (shared_entry qp) ps (rights qp) w (law_matrix qp s) (law_right qp s)
  of_sweeps = is_part_of qp s set

  pub is_part : IsPart (shared_table qp) n places sides (law_matrix qp s) (law_right qp s)
  is_part = record {
    shape = record { rows_are = of_sweeps.shape.rows_are ∙ count; columns_are = of_sweeps.shape.columns_are ∙ count; rectangular = of_sweeps.shape.rectangular };
    right_shape = record { rows_are = of_sweeps.right_shape.rows_are ∙ count; columns_are = of_sweeps.right_shape.columns_are ∙ sym side_at.size; rectangular = of_sweeps.right_shape.rectangular };
    entries = λ i j hi hj.
        let hi' : i < n + length s = omega (arith, size) in
        let hj' : j < n + length s = omega (arith, size) in
        of_sweeps.entries i j (omega (arith, count)) (omega (arith, count)) ∙ sym (part_at i j (pivot_at ps j) hi' (column_is j hj') (let b = swept_row j hj' in omega arith));
    right_entries = λ i j hi hj.
        let hi' : i < n + length s = omega (arith, size) in
        let hj' : j < w = omega (arith, side_at.size) in
        of_sweeps.right_entries i j (omega (arith, count)) hj' ∙ sym (part_at i (n + length places + j) (rights qp + j) hi' (side_is j hj') (omega arith));
  }
