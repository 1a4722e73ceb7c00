-- The equations of a step are a part of the shared table.
use Rattle.std.proofs.Common.{◌≡◌, ℕ, ◌+◌, ◌-◌, ◌<◌, ◌≤◌, cond, nat_lt, List, [], ◌∷◌, ◌++◌, length, get_or, pos, refl, sym, ◌∙◌, ap, arith, ⊎_elim}
use Rattle.std.proofs.lemmas.Bool.{cases_lt, cond_below, cond_above}
use Rattle.std.proofs.lemmas.List.{get_or_append_left, get_or-append_right}
use Rattle.mpc_exact.specs.Rational.{ℚ, int, neg_ℚ}
use Rattle.mpc_space.specs.Matrix.{height, entry}
use Rattle.mpc_space.proofs.Matrix.{entry-tabled, height-tabled, rectangular-tabled}
use Rattle.mpc_sets.specs.RowSet.{IsSetOfRows}
use Rattle.mpc_rows.specs.declared.programs.Qp.{Qp}
use Rattle.mpc_rows.specs.SetRuns.{law_entry, law_matrix}
use Rattle.mpc_rows.specs.LawTheorems.{LawTheorems}
use Rattle.mpc_bordered.specs.Parts.{place, part, ArePlaces, IsPart}
use Rattle.mpc_online.specs.Positions.{right_matrix, step_side}
use Rattle.mpc_systems.specs.Equations.{AreMemberPlaces}
use Rattle.mpc_online.specs.Shared.{shared_entry, shared_table}
use Rattle.mpc_online.proofs.Members.{member_within, member_cell}

place_first : (u : ℕ) (rows : List ℕ) (c : ℕ) → c < u → place u rows c ≡ c
place_first u rows c l = sym (cond_below c u c (get_or rows (c - u) 0) l)

place_later : (u : ℕ) (rows : List ℕ) (i : ℕ) → u ≤ i → place u rows i ≡ get_or rows (i - u) 0
place_later u rows i l = sym (cond_above i u i (get_or rows (i - u) 0) (get_or rows (i - u) 0) l refl)

-- a condition on numbers, by its case
pub below : {A : Type 0} (x y : ℕ) (a b : A) → x < y → cond (nat_lt x y) a b ≡ a
below x y a b l = sym (cond_below x y a b l)

above : {A : Type 0} (x y : ℕ) (a b : A) → y ≤ x → cond (nat_lt x y) a b ≡ b
above x y a b l = sym (cond_above x y a b b l refl)

pub shared_height : (qp : Qp) → height (shared_table qp) ≡ height qp.h + height qp.g
unfolding shared_table
shared_height qp = height-tabled (height qp.h + height qp.g) (height qp.h + height qp.g + height qp.g) (shared_entry qp)

pub shared_columns : (qp : Qp) → (shared_table qp).columns ≡ height qp.h + height qp.g + height qp.g
unfolding shared_table
shared_columns qp = refl

module _ (laws : LawTheorems) (qp : Qp) (s places : List ℕ) (set : IsSetOfRows (height qp.g) s) (at : AreMemberPlaces (height qp.h) s places) (row : ℕ) (from_one : 1 ≤ row) (to_last : row ≤ height qp.g) where
  abbrev n : ℕ
  n = height qp.h

  abbrev g : ℕ
  g = height qp.g

  abbrev rights : List ℕ
  rights = (n + g + (row - 1)) ∷ []

  member : (k : ℕ) → k < length s → (1 ≤ get_or s k 0) × (get_or s k 0 ≤ g)
  member k l = member_within laws g s k (get_or s k 0) set l refl

  member_place : (k : ℕ) → k < length places → (n ≤ get_or places k 0) × (get_or places k 0 < n + g)
  member_place k l =
      let l' : k < length s = omega (arith, at.size) in
      let e = at.at k l' in
      let b = member k l' in
      let b0 = b.0 in
      let b1 = b.1 in
      (omega arith, omega arith)

  right_place : (k : ℕ) → k < length rights → get_or rights k 0 ≡ n + g + (row - 1)
  right_place k l = let z : k ≡ 0 = omega arith in ap (λ k. get_or rights k 0) z

  pub are_places : ArePlaces (shared_table qp) n places rights
  are_places = record {
    behind = λ k l. (member_place k l).0;
    within = λ k l. let b = (member_place k l).1 in omega (arith, shared_height qp);
    columns_within = λ k l. let b = (member_place k l).1 in omega (arith, shared_columns qp);
    rights_behind = λ k l. let e = right_place k l in omega arith;
    rights_within = λ k l. let e = right_place k l in omega (arith, shared_columns qp);
  }

  -- ---- the entries
  shared_at : (i j : ℕ) → i < n + g → j < n + g + g → entry (shared_table qp) i j ≡ shared_entry qp i j
  unfolding shared_table
  shared_at i j hi hj = entry-tabled (n + g) (n + g + g) (shared_entry qp) i j hi hj

  hessian : (i j : ℕ) → i < n → j < n → shared_entry qp i j ≡ entry qp.h i j
  hessian i j hi hj = below i n _ _ hi ∙ below j n _ _ hj

  member_column : (i k : ℕ) → i < n → 1 ≤ k → k ≤ g → shared_entry qp i (n + (k - 1)) ≡ entry qp.g (k - 1) i
  member_column i k hi a b =
      below i n _ _ hi ∙ above (n + (k - 1)) n _ _ (omega arith) ∙ below (n + (k - 1)) (n + g) _ _ (omega arith)
      ∙ (let e : n + (k - 1) - n ≡ k - 1 = omega arith in ap (λ k. entry qp.g k i) e)

  right_column : (i : ℕ) → i < n → shared_entry qp i (n + g + (row - 1)) ≡ neg_ℚ (entry qp.g (row - 1) i)
  right_column i hi =
      below i n _ _ hi ∙ above (n + g + (row - 1)) n _ _ (omega arith) ∙ above (n + g + (row - 1)) (n + g) _ _ (omega arith)
      ∙ (let e : n + g + (row - 1) - n - g ≡ row - 1 = omega arith in ap (λ k. neg_ℚ (entry qp.g k i)) e)

  member_line : (k j : ℕ) → j < n → shared_entry qp (n + (k - 1)) j ≡ entry qp.g (k - 1) j
  member_line k j hj =
      above (n + (k - 1)) n _ _ (omega arith) ∙ below j n _ _ hj ∙ (let e : n + (k - 1) - n ≡ k - 1 = omega arith in ap (λ k. entry qp.g k j) e)

  corner : (i j : ℕ) → n ≤ i → n ≤ j → shared_entry qp i j ≡ int (pos 0)
  corner i j hi hj = above i n _ _ hi ∙ above j n _ _ hj

  -- ---- the part's entries, from those of the table
  abbrev p : ℕ → ℕ → ℚ
  p = part (entry (shared_table qp)) n places rights

  size : length places ≡ length s
  size = at.size

  row_first : (i : ℕ) → i < n → place n places i ≡ i
  row_first i l = place_first n places i l

  row_later : (i : ℕ) → n ≤ i → i < n + length s → place n places i ≡ n + (get_or s (i - n) 0 - 1)
  row_later i l m = place_later n places i l ∙ at.at (i - n) (omega arith)

  column_first : (j : ℕ) → j < n → place n (places ++ rights) j ≡ j
  column_first j l = place_first n (places ++ rights) j l

  column_later : (j : ℕ) → n ≤ j → j < n + length s → place n (places ++ rights) j ≡ n + (get_or s (j - n) 0 - 1)
  column_later j l m = place_later n (places ++ rights) j l ∙ get_or_append_left places rights 0 (j - n) (omega (arith, size)) ∙ at.at (j - n) (omega arith)

  column_right : place n (places ++ rights) (n + length places + 0) ≡ n + g + (row - 1)
  column_right =
      place_later n (places ++ rights) (n + length places + 0) (omega arith)
      ∙ get_or-append_right places rights (length places) (n + length places + 0 - n) 0 refl (omega arith)
      ∙ (let e : n + length places + 0 - n - length places ≡ 0 = omega arith in ap (λ k. get_or rights k 0) e)

  part_at : (i j a b : ℕ) → place n places i ≡ a → place n (places ++ rights) j ≡ b → a < n + g → b < n + g + g → p i j ≡ shared_entry qp a b
  unfolding part
  part_at i j a b e f ha hb = (λ m. entry (shared_table qp) (e m) (f m)) ∙ shared_at a b ha hb

  law_is : (i j : ℕ) → i < n + length s → j < n + length s → law_entry qp s i j ≡ p i j
  law_is i j hi hj = ⊎_elim (λ a. ⊎_elim (upper_left a) (upper_right a) (cases_lt j n)) (λ a. ⊎_elim (lower_left a) (lower_right a) (cases_lt j n)) (cases_lt i n)
    where
      upper_left : i < n → j < n → law_entry qp s i j ≡ p i j
      upper_left a b = below i n _ _ a ∙ below j n _ _ b ∙ sym (part_at i j i j (row_first i a) (column_first j b) (omega arith) (omega arith) ∙ hessian i j a b)

      upper_right : i < n → n ≤ j → law_entry qp s i j ≡ p i j
      upper_right a b =
          let m = member (j - n) (omega arith) in
          let m0 = m.0 in
          let m1 = m.1 in
          below i n _ _ a ∙ above j n _ _ b ∙ sym (member_cell qp.g.rows s (j - n) (get_or s (j - n) 0) i (omega arith) refl)
          ∙ sym (part_at i j i (n + (get_or s (j - n) 0 - 1)) (row_first i a) (column_later j b hj) (omega arith) (omega arith) ∙ member_column i (get_or s (j - n) 0) a m0 m1)

      lower_left : n ≤ i → j < n → law_entry qp s i j ≡ p i j
      lower_left a b =
          let m = member (i - n) (omega arith) in
          let m0 = m.0 in
          let m1 = m.1 in
          above i n _ _ a ∙ below j n _ _ b ∙ sym (member_cell qp.g.rows s (i - n) (get_or s (i - n) 0) j (omega arith) refl)
          ∙ sym (part_at i j (n + (get_or s (i - n) 0 - 1)) j (row_later i a hi) (column_first j b) (omega arith) (omega arith) ∙ member_line (get_or s (i - n) 0) j b)

      lower_right : n ≤ i → n ≤ j → law_entry qp s i j ≡ p i j
      lower_right a b =
          let m = member (i - n) (omega arith) in
          let m0 = m.0 in
          let m1 = m.1 in
          let k = member (j - n) (omega arith) in
          let k0 = k.0 in
          let k1 = k.1 in
          above i n _ _ a ∙ above j n _ _ b
          ∙ sym (part_at i j (n + (get_or s (i - n) 0 - 1)) (n + (get_or s (j - n) 0 - 1)) (row_later i a hi) (column_later j b hj) (omega arith) (omega arith)
          ∙ corner (n + (get_or s (i - n) 0 - 1)) (n + (get_or s (j - n) 0 - 1)) (omega arith) (omega arith))

  side_is : (i : ℕ) → i < n + length s → step_side qp row i ≡ p i (n + length places + 0)
  side_is i hi = ⊎_elim
      (λ a. below i n _ _ a ∙ sym (part_at i (n + length places + 0) i (n + g + (row - 1)) (row_first i a) column_right (omega arith) (omega arith) ∙ right_column i a))
      (λ a.
      let m = member (i - n) (omega arith) in
      let m0 = m.0 in
      let m1 = m.1 in
      above i n _ _ a
      ∙ sym (part_at i (n + length places + 0) (n + (get_or s (i - n) 0 - 1)) (n + g + (row - 1)) (row_later i a hi) column_right (omega arith) (omega arith)
      ∙ corner (n + (get_or s (i - n) 0 - 1)) (n + g + (row - 1)) (omega arith) (omega arith)))
      (cases_lt i n)

  pub is_part : IsPart (shared_table qp) n places rights (law_matrix qp s) (right_matrix qp s (step_side qp row))
  unfolding law_matrix
  is_part = record {
    shape = record {
      rows_are = height-tabled (n + length s) (n + length s) (law_entry qp s) ∙ ap (λ k. n + k) (sym size);
      columns_are = ap (λ k. n + k) (sym size);
      rectangular = rectangular-tabled (n + length s) (n + length s) (law_entry qp s);
    };
    right_shape = record {
      rows_are = height-tabled (n + length s) 1 (λ i j. step_side qp row i) ∙ ap (λ k. n + k) (sym size);
      columns_are = refl;
      rectangular = rectangular-tabled (n + length s) 1 (λ i j. step_side qp row i);
    };
    entries = λ i j hi hj.
        let hi' : i < n + length s = omega (arith, size) in
        let hj' : j < n + length s = omega (arith, size) in
        entry-tabled (n + length s) (n + length s) (law_entry qp s) i j hi' hj' ∙ law_is i j hi' hj';
    right_entries = λ i j hi hj.
        let hi' : i < n + length s = omega (arith, size) in
        let z : j ≡ 0 = omega arith in
        entry-tabled (n + length s) 1 (λ i j. step_side qp row i) i j hi' (omega arith) ∙ side_is i hi' ∙ ap (λ j. p i (n + length places + j)) (sym z);
  }
