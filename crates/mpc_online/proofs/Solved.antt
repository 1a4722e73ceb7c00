-- What the one solution of the equations of an active set says of the cost and of the members' rows, and that these equations have one where
-- the members are independent.
use Rattle.std.proofs.Common.{◌≡◌, ℕ, zero, suc, ◌+◌, ◌-◌, ◌<◌, ◌≤◌, List, [], ◌∷◌, ◌++◌, length, get_or, take, drop, pos, refl, sym, ◌∙◌, ap, subst, arith, inl, inr, ⊎_elim}
use Rattle.std.proofs.lemmas.Bool.{cases_lt, cond_below, cond_above}
use Rattle.std.proofs.lemmas.List.{length-append, length-take-le, length-drop, take-append-drop, get_or_append_left}
use Rattle.mpc_exact.specs.Rational.{ℚ, int, ◌+ℚ◌, neg_ℚ}
use Rattle.mpc_exact.proofs.RationalRing.{reads, by_ring, by_equation}
use Rattle.mpc_exact.proofs.OrderTheorems.{one-not_zero}
use Rattle.mpc_space.specs.Vector.{coordinate, cell, column, dot, vec_add, vec_scale, mat_vec, vec_mat, IsZero}
use Rattle.mpc_space.specs.Matrix.{RationalMatrix, height, IsRectangular, entry}
use Rattle.mpc_space.specs.Definite.{IsDefinite}
use Rattle.mpc_space.proofs.Entries.{coordinate-add, coordinate-listed, length-listed, length-add_within, length-scale, dot-zero, same_entries, zero_entries, zero_by_entries}
use Rattle.mpc_space.proofs.Vector.{dot-add_right}
use Rattle.mpc_space.proofs.Matrix.{length-mat_vec, coordinate-mat_vec, coordinate-vec_mat, coordinate-column, length-column, height-tabled, entry-tabled, entry-mat_mul}
use Rattle.mpc_space.proofs.Optimality.{kernel_point, kernel_factors}
use Rattle.mpc_sets.specs.RowSet.{Among}
use Rattle.mpc_linear.specs.Solution.{IsOnlySolution, IsFirstDependent}
use Rattle.mpc_rows.specs.declared.programs.Qp.{Qp}
use Rattle.mpc_rows.specs.ActiveSets.{row_of, rows_of, IsIndependentSet}
use Rattle.mpc_rows.specs.SetRuns.{law_matrix}
use Rattle.mpc_online.specs.Positions.{right_matrix, step_side, upper_part, lower_part}
use Rattle.mpc_online.proofs.Members.{length-rows_of}
use Rattle.mpc_online.proofs.Products.{coordinate_behind, upper_dot, lower_dot}

-- ---- shapes
pub matrix_height : (qp : Qp) (s : List ℕ) → height (law_matrix qp s) ≡ height qp.h + length s
unfolding law_matrix
matrix_height qp s = height-tabled (height qp.h + length s) (height qp.h + length s) _

pub matrix_columns : (qp : Qp) (s : List ℕ) → (law_matrix qp s).columns ≡ height qp.h + length s
unfolding law_matrix
matrix_columns qp s = refl

row_within : (m : RationalMatrix) (n i : ℕ) → IsRectangular m → m.columns ≡ n → length (get_or m.rows i []) ≤ n
row_within m n i r e = ⊎_elim (λ l. omega (arith, r i [] l)) (λ l. omega (arith, past m.rows i l)) (cases_lt i (height m))
  where
    past : (rows : List (List ℚ)) (i : ℕ) → length rows ≤ i → length (get_or rows i []) ≡ 0
    past [] i h = refl
    past (row ∷ rows) zero h = absurd (omega arith)
    past (row ∷ rows) (suc i) h = past rows i (omega arith)

pub length-row : (qp : Qp) (i : ℕ) → length (row_of qp.g.rows i) ≤ height qp.h
length-row qp i = let p = qp.is_program.g_shape in row_within qp.g (height qp.h) (i - 1) p.rectangular p.columns_are

rows_within : (qp : Qp) (s : List ℕ) (i : ℕ) → length (get_or (rows_of qp.g.rows s) i []) ≤ height qp.h
rows_within qp [] i = omega arith
rows_within qp (j ∷ s) zero = length-row qp j
rows_within qp (j ∷ s) (suc i) = rows_within qp s i

combination_within : (n : ℕ) (l : List ℚ) (rows : List (List ℚ)) → ((i : ℕ) → length (get_or rows i []) ≤ n) → length (vec_mat l rows) ≤ n
combination_within n [] rows h = omega arith
combination_within n (y ∷ l) [] h = omega arith
combination_within n (y ∷ l) (row ∷ rows) h = length-add_within n (vec_scale y row) (vec_mat l rows) (let a = h 0 in omega (arith, length-scale y row)) (combination_within n l rows (λ i. h (suc i)))

opposite : (a b q : ℚ) → a +ℚ b ≡ neg_ℚ q → a +ℚ b +ℚ q ≡ int (pos 0)
opposite a b q e = by_equation (int (pos 1)) e (by_ring (a ∷ b ∷ q ∷ []) (search reads depth 30) (search reads depth 30) tt)

regrouped : (a b q : ℚ) → a +ℚ b +ℚ q ≡ int (pos 0) → a +ℚ q +ℚ b ≡ int (pos 0)
regrouped a b q e = by_equation (int (pos 1)) e (by_ring (a ∷ b ∷ q ∷ []) (search reads depth 30) (search reads depth 30) tt)

module _ (qp : Qp) (s : List ℕ) where
  abbrev n : ℕ
  n = height qp.h

  abbrev m : RationalMatrix
  m = law_matrix qp s

  abbrev g : List (List ℚ)
  g = rows_of qp.g.rows s

  -- ---- products with a list in two parts
  module _ (z l : List ℚ) (z_size : length z ≡ n) (l_size : length l ≡ length s) where
    upper_entry : (i : ℕ) → i < n → dot (get_or m.rows i []) (z ++ l) ≡ coordinate (mat_vec qp.h.rows z) i +ℚ coordinate (vec_mat l g) i
    upper_entry i h = upper_dot qp s z l z_size l_size i h ∙ (λ t. sym (coordinate-mat_vec qp.h.rows z i) t +ℚ sym (coordinate-vec_mat l g i) t)

    lower_entry : (r : ℕ) → r < length s → dot (get_or m.rows (n + r) []) (z ++ l) ≡ coordinate (mat_vec g z) r
    lower_entry r h = lower_dot qp s z l z_size l_size r h ∙ sym (coordinate-mat_vec g z r)

    gradient_within : length (vec_add (mat_vec qp.h.rows z) (vec_mat l g)) ≤ n
    gradient_within = length-add_within n (mat_vec qp.h.rows z) (vec_mat l g) (omega (arith, length-mat_vec qp.h.rows z)) (combination_within n l g (rows_within qp s))

    gradient_zero : IsZero (mat_vec m.rows (z ++ l)) → IsZero (vec_add (mat_vec qp.h.rows z) (vec_mat l g))
    gradient_zero k =
        zero_by_entries (vec_add (mat_vec qp.h.rows z) (vec_mat l g))
        (λ i h. coordinate-add (mat_vec qp.h.rows z) (vec_mat l g) i ∙ sym (upper_entry i (let b = gradient_within in omega arith)) ∙ sym (coordinate-mat_vec m.rows (z ++ l) i) ∙ zero_entries (mat_vec m.rows (z ++ l)) k i)

    rows_zero : IsZero (mat_vec m.rows (z ++ l)) → IsZero (mat_vec g z)
    rows_zero k =
        zero_by_entries (mat_vec g z)
        (λ r h. sym (lower_entry r (omega (arith, length-mat_vec g z, length-rows_of qp.g.rows s))) ∙ sym (coordinate-mat_vec m.rows (z ++ l) (n + r)) ∙ zero_entries (mat_vec m.rows (z ++ l)) k (n + r))

  both_zero : (z l : List ℚ) → IsZero z → IsZero l → (i : ℕ) → coordinate (z ++ l) i ≡ int (pos 0)
  both_zero [] l a b i = zero_entries l b i
  both_zero (x ∷ z) l a b zero = a.0
  both_zero (x ∷ z) l a b (suc i) = both_zero z l a.1 b i

  -- a column that depends on those before it shows a dependence of the members
  pub dependent_rows : IsDefinite qp.h.rows → (index : ℕ) → IsFirstDependent m index → ¬ IsIndependentSet qp s
  dependent_rows d index k independent =
      let v = k.factors in
      let v_size : length v ≡ n + length s = k.size ∙ matrix_columns qp s in
      let z = take n v in
      let l = drop n v in
      let z_size : length z ≡ n = length-take-le n v (omega arith) in
      let l_size : length l ≡ length s = length-drop n v ∙ omega arith in
      let parts : z ++ l ≡ v = take-append-drop n v in
      let sent : IsZero (mat_vec m.rows (z ++ l)) = subst (λ u. IsZero (mat_vec m.rows u)) (sym parts) k.sent_to_zero in
      let above = gradient_zero z l z_size l_size sent in
      let below = rows_zero z l z_size l_size sent in
      one-not_zero (sym k.one ∙ ap (λ u. coordinate u index) (sym parts)
      ∙ both_zero z l (kernel_point qp.h.rows g z l above below d z_size) (kernel_factors qp.h.rows g z l above below d z_size independent (l_size ∙ sym (length-rows_of qp.g.rows s))) index)

  -- ---- the one solution
  module _ (f : ℕ → ℚ) (x : RationalMatrix) (sol : IsOnlySolution m (right_matrix qp s f) x) where
    abbrev u : List ℚ
    u = upper_part qp x

    abbrev v : List ℚ
    v = lower_part qp s x

    pub length-upper : length u ≡ n
    length-upper = length-listed n _

    pub length-lower : length v ≡ length s
    length-lower = length-listed (length s) _

    height-solution : height x ≡ n + length s
    height-solution = sol.shape.rows_are ∙ matrix_columns qp s

    parts_entry : (i : ℕ) → i < n + length s → coordinate (column x.rows 0) i ≡ coordinate (u ++ v) i
    parts_entry i h = coordinate-column x.rows i 0 ∙ ⊎_elim
        (λ k. sym (get_or_append_left u v (int (pos 0)) i (omega (arith, length-upper)) ∙ coordinate-listed n (λ j. entry x j 0) i k))
        (λ k.
        let e : n + (i - n) ≡ i = omega arith in
        ap (λ j. entry x j 0) (sym e) ∙ sym (ap (coordinate (u ++ v)) (sym e) ∙ coordinate_behind u v n (i - n) length-upper ∙ coordinate-listed (length s) (λ j. entry x (n + j) 0) (i - n) (omega arith)))
        (cases_lt i n)

    parts_are : column x.rows 0 ≡ u ++ v
    parts_are =
        let c : length (column x.rows 0) ≡ n + length s = length-column x.rows 0 ∙ height-solution in
        let d : length (u ++ v) ≡ n + length s = length-append u v ∙ (λ i. length-upper i + length-lower i) in
        same_entries (column x.rows 0) (u ++ v) (c ∙ sym d) (λ i l. parts_entry i (omega arith))

    equation : (i : ℕ) → i < n + length s → dot (get_or m.rows i []) (u ++ v) ≡ f i
    equation i h =
        ap (dot (get_or m.rows i [])) (sym parts_are)
        ∙ sym (entry-mat_mul m x i 0 (omega (arith, matrix_height qp s)) (omega (arith, sol.shape.columns_are)))
        ∙ ap (λ y. entry y i 0) sol.solves
        ∙ entry-tabled (n + length s) 1 (λ i j. f i) i 0 h (omega arith)

    -- h u + q + g'v is 0 where the upper right sides are -q
    pub solution_balanced : (q : List ℚ) → length q ≤ n → ((i : ℕ) → i < n → f i ≡ neg_ℚ (coordinate q i)) → (y : List ℚ) → dot y (mat_vec qp.h.rows u) +ℚ dot y q +ℚ dot y (vec_mat v g) ≡ int (pos 0)
    solution_balanced q q_size e y =
        regrouped (dot y (mat_vec qp.h.rows u)) (dot y (vec_mat v g)) (dot y q)
        (sym (dot-add_right (vec_add (mat_vec qp.h.rows u) (vec_mat v g)) q y ∙ ap (λ w. w +ℚ dot y q) (dot-add_right (mat_vec qp.h.rows u) (vec_mat v g) y))
        ∙ dot-zero y (vec_add (vec_add (mat_vec qp.h.rows u) (vec_mat v g)) q) all)
      where
        all : IsZero (vec_add (vec_add (mat_vec qp.h.rows u) (vec_mat v g)) q)
        all = zero_by_entries (vec_add (vec_add (mat_vec qp.h.rows u) (vec_mat v g)) q) (λ i h.
            let w : length (vec_add (vec_add (mat_vec qp.h.rows u) (vec_mat v g)) q) ≤ n = length-add_within n (vec_add (mat_vec qp.h.rows u) (vec_mat v g)) q (gradient_within u v length-upper length-lower) q_size in
            let k : i < n = omega arith in
            coordinate-add (vec_add (mat_vec qp.h.rows u) (vec_mat v g)) q i ∙ ap (λ w. w +ℚ coordinate q i) (coordinate-add (mat_vec qp.h.rows u) (vec_mat v g) i)
            ∙ opposite (coordinate (mat_vec qp.h.rows u) i) (coordinate (vec_mat v g) i) (coordinate q i) (sym (upper_entry u v length-upper length-lower i k) ∙ equation i (omega arith) ∙ e i k))

    -- g u is 0 where the lower right sides are
    pub solution_keeps : ((r : ℕ) → r < length s → f (n + r) ≡ int (pos 0)) → IsZero (mat_vec g u)
    solution_keeps e = zero_by_entries (mat_vec g u) (λ r h.
        let k : r < length s = omega (arith, length-mat_vec g u, length-rows_of qp.g.rows s) in
        sym (lower_entry u v length-upper length-lower r k) ∙ equation (n + r) (omega arith) ∙ e r k)

keeps_among : (g : List (List ℚ)) (d : List ℚ) (s : List ℕ) → IsZero (mat_vec (rows_of g s) d) → (i : ℕ) → Among i s → dot (row_of g i) d ≡ int (pos 0)
keeps_among g d [] z i m = absurd m
keeps_among g d (j ∷ s) z i (inl e) = ap (λ k. dot (row_of g k) d) e ∙ z.0
keeps_among g d (j ∷ s) z i (inr m) = keeps_among g d s z.1 i m

-- the direction of a step: h d + g_r + g_S'e is 0, and no member changes
pub record IsDirection (qp : Qp) (s : List ℕ) (r : ℕ) (d e : List ℚ) : Type 0 where
  pub size : length d ≡ height qp.h
  pub one_each : length e ≡ length s
  pub balanced : (y : List ℚ) → dot y (mat_vec qp.h.rows d) +ℚ dot y (row_of qp.g.rows r) +ℚ dot y (vec_mat e (rows_of qp.g.rows s)) ≡ int (pos 0)
  pub keeps : (i : ℕ) → Among i s → dot (row_of qp.g.rows i) d ≡ int (pos 0)

pub direction : (qp : Qp) (s : List ℕ) (r : ℕ) (x : RationalMatrix) → IsOnlySolution (law_matrix qp s) (right_matrix qp s (step_side qp r)) x → IsDirection qp s r (upper_part qp x) (lower_part qp s x)
direction qp s r x sol = record {
  size = length-upper qp s (step_side qp r) x sol;
  one_each = length-lower qp s (step_side qp r) x sol;
  balanced = solution_balanced qp s (step_side qp r) x sol (row_of qp.g.rows r) (length-row qp r) (λ i h. sym (cond_below i (height qp.h) (neg_ℚ (cell qp.g.rows (r - 1) i)) (int (pos 0)) h));
  keeps = keeps_among qp.g.rows (upper_part qp x) s
      (solution_keeps qp s (step_side qp r) x sol (λ k h. sym (cond_above (height qp.h + k) (height qp.h) (neg_ℚ (cell qp.g.rows (r - 1) (height qp.h + k))) (int (pos 0)) (int (pos 0)) (omega arith) refl)));
}
