-- Where a step has no direction and no multiplier falls, the members and the row on its way refute the rows.
use Rattle.std.proofs.Common.{◌≡◌, ℕ, suc, ◌-◌, ◌<◌, ◌≤◌, cond, ◌==◌, List, [], ◌∷◌, length, pos, refl, sym, ◌∙◌, ap, subst, arith, inl, inr, ◌⊎◌, ⊎_elim, eq-eqb, ne_eqb}
use Rattle.std.proofs.lemmas.Bool.{cond-true, cond-false, cases_eq}
use Rattle.std.proofs.lemmas.List.FromFn.{length-map-range_with_len, get_or-map-range_with_len}
use Rattle.mpc_exact.specs.Rational.{ℚ, int, ◌+ℚ◌, ◌*ℚ◌, ◌<ℚ◌, IsNonneg}
use Rattle.mpc_exact.proofs.RationalRing.{reads, by_ring, by_equations}
use Rattle.mpc_exact.proofs.RationalOrder.{nonneg_int, le_or_lt}
use Rattle.mpc_exact.proofs.Linear.{linear_lt, claims, none, lt, eq}
use Rattle.mpc_space.specs.Vector.{coordinate, dot, vec_add, vec_scale, mat_vec, vec_mat, IsZero}
use Rattle.mpc_space.specs.Matrix.{height}
use Rattle.mpc_space.specs.Total.{total, unit}
use Rattle.mpc_space.proofs.Total.{total-same, total-zeros, total-add, total-unit, unit-same, unit-other}
use Rattle.mpc_space.proofs.Entries.{coordinate-add, coordinate-scale, dot-zero, dot_nil, zero_entries, zero_by_dots}
use Rattle.mpc_space.proofs.Vector.{dot_comm, dot-add_right}
use Rattle.mpc_sets.specs.RowSet.{RisesWithin, Among}
use Rattle.mpc_rows.specs.declared.programs.Qp.{Qp}
use Rattle.mpc_rows.specs.declared.systems.Row.{Row}
use Rattle.mpc_rows.specs.LinearSystem.{LinearSystem, row_at, no_row, entry}
use Rattle.mpc_rows.specs.NumberedSystems.{RefutesBy}
use Rattle.mpc_rows.specs.ActiveSets.{row_of, rows_of}
use Rattle.mpc_online.specs.StateRows.{sides_at, side, state_row, state_system}
use Rattle.mpc_online.specs.Positions.{Position, member_multiplier, row_multiplier, row_multipliers}
use Rattle.mpc_online.specs.Turns.{NoneFalls}
use Rattle.mpc_online.proofs.Along.{IsOnWay}
use Rattle.mpc_online.proofs.Combinations.{dot_combination}
use Rattle.mpc_online.proofs.SetLists.{among_within}
use Rattle.mpc_online.proofs.Solved.{IsDirection}
use Rattle.mpc_online.proofs.Steps.{no_member}

-- the members' multipliers against numbers of the rows
combined : List ℕ → List ℚ → (ℕ → ℚ) → ℚ
combined [] e f = int (pos 0)
combined (j ∷ s) [] f = int (pos 0)
combined (j ∷ s) (x ∷ e) f = x *ℚ f j +ℚ combined s e f

no_multiplier : (s : List ℕ) (e : List ℚ) (i : ℕ) → (Among i s → ⊥) → member_multiplier s e i ≡ int (pos 0)
no_multiplier [] e i h = refl
no_multiplier (j ∷ s) [] i h = refl
no_multiplier (j ∷ s) (x ∷ e) i h = cond-false (j == i) x (member_multiplier s e i) (ne_eqb j i (λ q. h (inl (sym q)))) ∙ no_multiplier s e i (λ m. h (inr m))

-- a multiplier that is the unit's at one row and the others' elsewhere
unit_or : (j i k : ℕ) (x m : ℚ) → suc k ≡ j → (suc i ≡ j → m ≡ int (pos 0)) → cond (j == suc i) x m ≡ unit k i *ℚ x +ℚ m
unit_or j i k x m is h = by (cases_eq j (suc i))
  where
    by : (j ≡ suc i) ⊎ (j ≡ suc i → ⊥) → cond (j == suc i) x m ≡ unit k i *ℚ x +ℚ m
    by (inl e) =
        cond-true (j == suc i) x m (eq-eqb j (suc i) e)
        ∙ sym ((λ t. unit-same k i (let q : k ≡ i = omega arith in q) t *ℚ x +ℚ h (sym e) t) ∙ by_ring (x ∷ []) (search reads depth 30) (search reads depth 30) tt)
    by (inr e) =
        cond-false (j == suc i) x m (ne_eqb j (suc i) e)
        ∙ sym ((λ t. unit-other k i (λ q. e (let r : j ≡ suc i = omega arith in r)) t *ℚ x +ℚ m) ∙ by_ring (x ∷ m ∷ []) (search reads depth 30) (search reads depth 30) tt)

spread : (u x m f : ℚ) → (u *ℚ x +ℚ m) *ℚ f ≡ u *ℚ (x *ℚ f) +ℚ m *ℚ f
spread u x m f = by_ring (u ∷ x ∷ m ∷ f ∷ []) (search reads depth 30) (search reads depth 30) tt

-- one row apart in a sum over all rows
apart : (n j k : ℕ) (x : ℚ) (m f : ℕ → ℚ) → suc k ≡ j → k < n → m k ≡ int (pos 0) → total n (λ i. cond (j == suc i) x (m i) *ℚ f (suc i)) ≡ x *ℚ f j +ℚ total n (λ i. m i *ℚ f (suc i))
apart n j k x m f is below zero_there =
    total-same n (λ i. cond (j == suc i) x (m i) *ℚ f (suc i)) (λ i. unit k i *ℚ (x *ℚ f (suc i)) +ℚ m i *ℚ f (suc i))
    (λ i l. ap (λ u. u *ℚ f (suc i)) (unit_or j i k x (m i) is (λ e. ap m (let q : i ≡ k = omega arith in q) ∙ zero_there)) ∙ spread (unit k i) x (m i) (f (suc i)))
    ∙ total-add n (λ i. unit k i *ℚ (x *ℚ f (suc i))) (λ i. m i *ℚ f (suc i))
    ∙ ap (λ u. u +ℚ total n (λ i. m i *ℚ f (suc i))) (total-unit n k (λ i. x *ℚ f (suc i)) below ∙ ap (λ i. x *ℚ f i) is)

members_total : (low n : ℕ) (s : List ℕ) (e : List ℚ) (f : ℕ → ℚ) → RisesWithin low n s → length e ≡ length s → total n (λ i. member_multiplier s e (suc i) *ℚ f (suc i)) ≡ combined s e f
unfolding combined
members_total low n [] e f r l = total-zeros n (λ i. int (pos 0) *ℚ f (suc i)) (λ i h. by_ring (f (suc i) ∷ []) (search reads depth 30) (search reads depth 30) tt)
members_total low n (j ∷ s) [] f r l = absurd (omega arith)
members_total low n (j ∷ s) (x ∷ e) f r l =
    let from : low < j = r.0 in
    let to : j ≤ n = r.1 in
    let is : suc (j - 1) ≡ j = omega arith in
    apart n j (j - 1) x (λ i. member_multiplier s e (suc i)) f is (omega arith)
    (no_multiplier s e (suc (j - 1)) (λ m. let w = among_within j n (suc (j - 1)) s r.2 m in omega (arith, w.0)))
    ∙ ap (λ u. x *ℚ f j +ℚ u) (members_total j n s e f r.2 (omega arith))

-- a combination of the members' rows, entry by entry, and against a vector
combined_entries : (g : List (List ℚ)) (s : List ℕ) (e : List ℚ) (j : ℕ) → combined s e (λ i. coordinate (row_of g i) j) ≡ coordinate (vec_mat e (rows_of g s)) j
unfolding combined
combined_entries g [] [] j = refl
combined_entries g [] (x ∷ e) j = refl
combined_entries g (i ∷ s) [] j = refl
combined_entries g (i ∷ s) (x ∷ e) j =
    (λ t. sym (coordinate-scale x (row_of g i) j) t +ℚ combined_entries g s e j t) ∙ sym (coordinate-add (vec_scale x (row_of g i)) (vec_mat e (rows_of g s)) j)

combined_levels : (g : List (List ℚ)) (s : List ℕ) (e z : List ℚ) (f : ℕ → ℚ) → ((i : ℕ) → Among i s → f i ≡ dot (row_of g i) z) → combined s e f ≡ dot z (vec_mat e (rows_of g s))
unfolding combined
combined_levels g [] [] z f h = sym (dot_nil z)
combined_levels g [] (x ∷ e) z f h = sym (dot_nil z)
combined_levels g (i ∷ s) [] z f h = sym (dot_nil z)
combined_levels g (i ∷ s) (x ∷ e) z f h =
    (λ t. x *ℚ (h i (inl refl) ∙ dot_comm (row_of g i) z) t +ℚ combined_levels g s e z f (λ j m. h j (inr m)) t) ∙ sym (dot_combination z x e (row_of g i) (rows_of g s))

member_nonneg : (s : List ℕ) (e : List ℚ) (i : ℕ) → ((k : ℕ) → k < length e → IsNonneg (coordinate e k)) → IsNonneg (member_multiplier s e i)
member_nonneg [] e i h = nonneg_int 0
member_nonneg (j ∷ s) [] i h = nonneg_int 0
member_nonneg (j ∷ s) (x ∷ e) i h = ⊎_elim
    (λ q. subst IsNonneg (sym (cond-true (j == i) x (member_multiplier s e i) (eq-eqb j i q))) (h 0 (omega arith)))
    (λ q. subst IsNonneg (sym (cond-false (j == i) x (member_multiplier s e i) (ne_eqb j i q))) (member_nonneg s e i (λ k l. h (suc k) (omega arith))))
    (cases_eq j i)

module _ (qp : Qp) (t : List ℚ) (p : Position) (d e : List ℚ) (way : IsOnWay qp t p) (dir : IsDirection qp p.set p.row d e) (still : IsZero d) (none_falls : NoneFalls e) where
  abbrev rows : ℕ
  rows = height qp.g

  abbrev multipliers : List ℚ
  multipliers = row_multipliers qp p e

  pub length-row_multipliers : length multipliers ≡ rows
  length-row_multipliers = length-map-range_with_len (row_multiplier p e) 1 rows

  multiplier_at : (i : ℕ) → i < rows → coordinate multipliers i ≡ row_multiplier p e (suc i)
  multiplier_at i h = get_or-map-range_with_len (row_multiplier p e) 1 rows i (suc i) (int (pos 0)) h (omega arith)

  nonneg_e : (k : ℕ) → k < length e → IsNonneg (coordinate e k)
  nonneg_e k h = ⊎_elim (λ up. up) (λ down. absurd (none_falls k h down)) (le_or_lt (int (pos 0)) (coordinate e k))

  multiplier_nonneg : (i : ℕ) → IsNonneg (row_multiplier p e i)
  multiplier_nonneg i = ⊎_elim
      (λ q. subst IsNonneg (sym (cond-true (i == p.row) (int (pos 1)) (member_multiplier p.set e i) (eq-eqb i p.row q))) (nonneg_int 1))
      (λ q. subst IsNonneg (sym (cond-false (i == p.row) (int (pos 1)) (member_multiplier p.set e i) (ne_eqb i p.row q))) (member_nonneg p.set e i nonneg_e))
      (cases_eq i p.row)

  turned : (i : ℕ) (x m : ℚ) → cond (i == p.row) x m ≡ cond (p.row == i) x m
  turned i x m = ⊎_elim
      (λ q. cond-true (i == p.row) x m (eq-eqb i p.row q) ∙ sym (cond-true (p.row == i) x m (eq-eqb p.row i (sym q))))
      (λ q. cond-false (i == p.row) x m (ne_eqb i p.row q) ∙ sym (cond-false (p.row == i) x m (ne_eqb p.row i (λ r. q (sym r)))))
      (cases_eq i p.row)

  -- the sum over all rows
  sum_of_rows : (f : ℕ → ℚ) → total rows (λ i. coordinate multipliers i *ℚ f (suc i)) ≡ f p.row +ℚ combined p.set e f
  sum_of_rows f =
      let from : 1 ≤ p.row = way.is_position.from_one in
      let to : p.row ≤ rows = way.is_position.to_last in
      let is : suc (p.row - 1) ≡ p.row = omega arith in
      total-same rows (λ i. coordinate multipliers i *ℚ f (suc i)) (λ i. cond (p.row == suc i) (int (pos 1)) (member_multiplier p.set e (suc i)) *ℚ f (suc i))
      (λ i h. ap (λ u. u *ℚ f (suc i)) (multiplier_at i h ∙ turned (suc i) (int (pos 1)) (member_multiplier p.set e (suc i))))
      ∙ apart rows p.row (p.row - 1) (int (pos 1)) (λ i. member_multiplier p.set e (suc i)) f is (omega arith)
      (no_multiplier p.set e (suc (p.row - 1)) (λ m. no_member qp t p way (subst (λ i. Among i p.set) is m)))
      ∙ ap (λ u. int (pos 1) *ℚ f p.row +ℚ u) (members_total 0 rows p.set e f way.is_position.set_of_rows.rises dir.one_each)
      ∙ ap (λ u. u +ℚ combined p.set e f) (by_ring (f p.row ∷ []) (search reads depth 30) (search reads depth 30) tt)

  still_form : (y : List ℚ) → dot y (mat_vec qp.h.rows d) ≡ int (pos 0)
  still_form y = dot-zero y (mat_vec qp.h.rows d) (no_products qp.h.rows)
    where
      no_products : (h : List (List ℚ)) → IsZero (mat_vec h d)
      no_products [] = tt
      no_products (row ∷ h) = (dot-zero row d still, no_products h)

  without_form : (a r m : ℚ) → a ≡ int (pos 0) → a +ℚ r +ℚ m ≡ int (pos 0) → r +ℚ m ≡ int (pos 0)
  without_form a r m h k = by_equations (int (pos 1)) (int (pos 1)) k (sym h) (by_ring (a ∷ r ∷ m ∷ []) (search reads depth 30) (search reads depth 30) tt)

  gradient : (y : List ℚ) → dot y (row_of qp.g.rows p.row) +ℚ dot y (vec_mat e (rows_of qp.g.rows p.set)) ≡ int (pos 0)
  gradient y = without_form (dot y (mat_vec qp.h.rows d)) (dot y (row_of qp.g.rows p.row)) (dot y (vec_mat e (rows_of qp.g.rows p.set))) (still_form y) (dir.balanced y)

  vanishes : IsZero (vec_add (row_of qp.g.rows p.row) (vec_mat e (rows_of qp.g.rows p.set)))
  vanishes = zero_by_dots (vec_add (row_of qp.g.rows p.row) (vec_mat e (rows_of qp.g.rows p.set))) (λ y. dot-add_right (row_of qp.g.rows p.row) (vec_mat e (rows_of qp.g.rows p.set)) y ∙ gradient y)

  abbrev system : LinearSystem
  system = state_system qp t

  row_is : (i : ℕ) → i < rows → row_at system i ≡ state_row qp t (suc i)
  row_is i h = get_or-map-range_with_len (state_row qp t) 1 rows i (suc i) no_row h (omega arith)

  system_height : length system.rows ≡ rows
  system_height = length-map-range_with_len (state_row qp t) 1 rows

  left_at : (j : ℕ) → total rows (λ i. coordinate multipliers i *ℚ entry system i j) ≡ int (pos 0)
  unfolding entry
  left_at j =
      total-same rows (λ i. coordinate multipliers i *ℚ coordinate (row_at system i).a j) (λ i. coordinate multipliers i *ℚ coordinate (row_of qp.g.rows (suc i)) j)
      (λ i h. ap (λ (r : Row). coordinate multipliers i *ℚ coordinate r.a j) (row_is i h))
      ∙ sum_of_rows (λ i. coordinate (row_of qp.g.rows i) j)
      ∙ ap (λ u. coordinate (row_of qp.g.rows p.row) j +ℚ u) (combined_entries qp.g.rows p.set e j)
      ∙ sym (coordinate-add (row_of qp.g.rows p.row) (vec_mat e (rows_of qp.g.rows p.set)) j)
      ∙ zero_entries (vec_add (row_of qp.g.rows p.row) (vec_mat e (rows_of qp.g.rows p.set))) vanishes j

  below_zero : (b r m : ℚ) → b <ℚ r → r +ℚ m ≡ int (pos 0) → (b +ℚ m) <ℚ int (pos 0)
  below_zero b r m h k = linear_lt (b ∷ r ∷ m ∷ []) (lt h (eq k none)) (search claims depth 40) tt

  right_total : total rows (λ i. coordinate multipliers i *ℚ (row_at system i).b) ≡ side (sides_at qp t) p.row +ℚ dot p.point (vec_mat e (rows_of qp.g.rows p.set))
  right_total =
      total-same rows (λ i. coordinate multipliers i *ℚ (row_at system i).b) (λ i. coordinate multipliers i *ℚ side (sides_at qp t) (suc i))
      (λ i h. ap (λ (r : Row). coordinate multipliers i *ℚ r.b) (row_is i h))
      ∙ sum_of_rows (side (sides_at qp t))
      ∙ ap (λ u. side (sides_at qp t) p.row +ℚ u) (combined_levels qp.g.rows p.set e p.point (side (sides_at qp t)) (λ i m. sym (way.tight i m)))

  pub refutes : RefutesBy system (coordinate multipliers)
  refutes = record {
    nonneg = λ i h. let l : i < rows = omega (arith, system_height) in subst IsNonneg (sym (multiplier_at i l)) (multiplier_nonneg (suc i));
    left = λ j h. subst (λ n. total n (λ i. coordinate multipliers i *ℚ entry system i j) ≡ int (pos 0)) (sym system_height) (left_at j);
    right = inl (subst (λ n. total n (λ i. coordinate multipliers i *ℚ (row_at system i).b) <ℚ int (pos 0)) (sym system_height)
        (subst (λ u. u <ℚ int (pos 0)) (sym right_total)
        (below_zero (side (sides_at qp t) p.row) (dot p.point (row_of qp.g.rows p.row)) (dot p.point (vec_mat e (rows_of qp.g.rows p.set)))
        (subst (λ u. side (sides_at qp t) p.row <ℚ u) (dot_comm (row_of qp.g.rows p.row) p.point) way.violated.above) (gradient p.point))));
  }
