-- Corners: the point without rows is one, a corner is single, and one that meets every row is the cheapest choice.
use Rattle.std.proofs.Common.{◌≡◌, ℕ, suc, ◌-◌, ◌<◌, List, [], ◌∷◌, length, get_or, pos, negsuc, refl, sym, ◌∙◌, ap, subst, arith, inl, inr, ⊎_elim, None}
use Rattle.mpc_exact.specs.Rational.{ℚ, int, ◌+ℚ◌, ◌-ℚ◌, ◌≤ℚ◌}
use Rattle.mpc_exact.proofs.RationalRing.{reads, by_ring, by_equations}
use Rattle.mpc_exact.proofs.OrderTheorems.{≤ℚ_of_not-<, positive-not_zero}
use Rattle.mpc_space.specs.Vector.{coordinate, dot, vec_add, vec_scale, vec_sub, mat_vec, vec_mat, quadratic, IsZero, IsIndependent}
use Rattle.mpc_space.specs.Matrix.{RationalMatrix, height}
use Rattle.mpc_space.specs.Definite.{IsDefinite}
use Rattle.mpc_space.proofs.Entries.{length-sub, zero_by_dots, zero_or_not, difference_zero, at_most_by_entries}
use Rattle.mpc_space.proofs.Vector.{dot_comm, dot-add_right, dot-sub_right}
use Rattle.mpc_space.proofs.Matrix.{length-mat_vec, coordinate-mat_vec, mat_vec-add, mat_vec-scale}
use Rattle.mpc_space.proofs.Definite.{definite_at}
use Rattle.mpc_sets.specs.RowSet.{Among}
use Rattle.mpc_linear.specs.Solution.{IsOnlySolution}
use Rattle.mpc_rows.specs.declared.programs.Qp.{Qp}
use Rattle.mpc_rows.specs.ActiveSets.{extended, row_of, rows_of, IsInBox, IsTight, IsFeasible}
use Rattle.mpc_rows.specs.SetRuns.{law_matrix}
use Rattle.mpc_cover.specs.Cheapest.{HasMultipliers}
use Rattle.mpc_online.specs.StateRows.{sides_at, level, side, IsFirstViolated}
use Rattle.mpc_online.specs.Positions.{Position, right_matrix, opening_side, upper_part, lower_part, opened}
use Rattle.mpc_online.specs.Standing.{IsCorner}
use Rattle.mpc_online.proofs.Combinations.{combination_stays}
use Rattle.mpc_online.proofs.Solved.{length-upper, solution_balanced}

-- ---- the first corner
no_factors : (factors : List ℚ) → length factors ≡ 0 → IsZero (vec_mat factors []) → IsZero factors
no_factors [] e z = tt
no_factors (x ∷ factors) e z = absurd (omega arith)

pub no_rows_independent : IsIndependent []
no_rows_independent = record { only_zero = no_factors }

no_combination : (l : List ℚ) → vec_mat l [] ≡ []
no_combination [] = refl
no_combination (x ∷ l) = refl

pub first_corner : (qp : Qp) (t : List ℚ) (x : RationalMatrix) → IsOnlySolution (law_matrix qp []) (right_matrix qp [] (opening_side qp (extended t))) x → IsCorner qp t (opened (upper_part qp x))
first_corner qp t x sol = record {
  size = length-upper qp [] (opening_side qp (extended t)) x sol;
  set_of_rows = record { rises = tt };
  independent = no_rows_independent;
  one_each = refl;
  nonnegative = tt;
  tight = λ i m. absurd m;
  balanced = λ y.
      ap (λ u. dot y (mat_vec qp.h.rows (upper_part qp x)) +ℚ dot y (mat_vec qp.f.rows (extended t)) +ℚ dot y u) (sym (no_combination (lower_part qp [] x)))
      ∙ solution_balanced qp [] (opening_side qp (extended t)) x sol (mat_vec qp.f.rows (extended t))
      (omega (arith, length-mat_vec qp.f.rows (extended t), qp.is_program.f_shape.rows_are)) (λ i h. refl) y;
}

-- ---- two corners of one set
same_sum : (x y q a b : ℚ) → x +ℚ q +ℚ a ≡ int (pos 0) → y +ℚ q +ℚ b ≡ int (pos 0) → a ≡ int (pos 0) → b ≡ int (pos 0) → x -ℚ y ≡ int (pos 0)
same_sum x y q a b e f g h = by_equations (int (pos 1)) (int (negsuc 0)) e f (by_equations (int (negsuc 0)) (int (pos 1)) g h (by_ring (x ∷ y ∷ q ∷ a ∷ b ∷ []) (search reads depth 30) (search reads depth 30) tt))

equal_sides : {x y b : ℚ} → x ≡ b → y ≡ b → x -ℚ y ≡ int (pos 0)
equal_sides {x} {y} {b} e f = by_equations (int (pos 1)) (int (negsuc 0)) e f (by_ring (x ∷ y ∷ b ∷ []) (search reads depth 30) (search reads depth 30) tt)

module _ (qp : Qp) (t : List ℚ) (definite : IsDefinite qp.h.rows) (a b : Position) (at_a : IsCorner qp t a) (at_b : IsCorner qp t b) (same : a.set ≡ b.set) where
  abbrev x : List ℚ
  x = vec_sub a.point b.point

  x_size : length x ≡ height qp.h
  x_size = length-sub a.point b.point (at_a.size ∙ sym at_b.size) ∙ at_a.size

  keeps : (i : ℕ) → Among i a.set → dot x (row_of qp.g.rows i) ≡ int (pos 0)
  keeps i m = dot_comm x (row_of qp.g.rows i) ∙ dot-sub_right a.point b.point (row_of qp.g.rows i) ∙ equal_sides (at_a.tight i m) (at_b.tight i (subst (Among i) same m))

  form : dot x (mat_vec qp.h.rows x) ≡ dot x (mat_vec qp.h.rows a.point) -ℚ dot x (mat_vec qp.h.rows b.point)
  form =
      ap (dot x) (mat_vec-add qp.h.rows a.point (vec_scale (int (negsuc 0)) b.point) ∙ ap (vec_add (mat_vec qp.h.rows a.point)) (mat_vec-scale qp.h.rows (int (negsuc 0)) b.point))
      ∙ dot-sub_right (mat_vec qp.h.rows a.point) (mat_vec qp.h.rows b.point) x

  vanishing : quadratic qp.h.rows x ≡ int (pos 0)
  vanishing = form ∙ same_sum (dot x (mat_vec qp.h.rows a.point)) (dot x (mat_vec qp.h.rows b.point)) (dot x (mat_vec qp.f.rows (extended t))) (dot x (vec_mat a.multipliers (rows_of qp.g.rows a.set))) (dot x (vec_mat b.multipliers (rows_of qp.g.rows b.set)))
      (at_a.balanced x) (at_b.balanced x) (combination_stays (row_of qp.g.rows) x a.multipliers a.set keeps)
      (combination_stays (row_of qp.g.rows) x b.multipliers b.set (λ i m. keeps i (subst (Among i) (sym same) m)))

  pub same_corner : a.point ≡ b.point
  same_corner = difference_zero a.point b.point (at_a.size ∙ sym at_b.size) (⊎_elim (λ z. z) (λ some. absurd (positive-not_zero (definite_at definite x x_size some) vanishing)) (zero_or_not x))

-- ---- a corner that meets every row
module _ (qp : Qp) (t : List ℚ) (p : Position) (corner : IsCorner qp t p) where
  side_is : (i : ℕ) → side (sides_at qp t) i ≡ dot (row_of qp.w.rows i) (extended t)
  side_is i = coordinate-mat_vec qp.w.rows (extended t) (i - 1)

  tight_rows : (s : List ℕ) → ((i : ℕ) → Among i s → level qp p.point i ≡ side (sides_at qp t) i) → IsTight qp s t p.point
  tight_rows [] h = refl
  tight_rows (i ∷ s) h = λ k. (h i (inl refl) ∙ side_is i) k ∷ tight_rows s (λ j m. h j (inr m)) k

  pub corner_multipliers : HasMultipliers qp t p.point
  corner_multipliers = record {
    set = p.set;
    set_of_rows = corner.set_of_rows;
    independent = corner.independent;
    multipliers = p.multipliers;
    one_each = corner.one_each;
    nonnegative = corner.nonnegative;
    equations = record {
      stationary = zero_by_dots (vec_add (vec_add (mat_vec qp.h.rows p.point) (mat_vec qp.f.rows (extended t))) (vec_mat p.multipliers (rows_of qp.g.rows p.set))) (λ y.
          dot-add_right (vec_add (mat_vec qp.h.rows p.point) (mat_vec qp.f.rows (extended t))) (vec_mat p.multipliers (rows_of qp.g.rows p.set)) y
          ∙ ap (λ u. u +ℚ dot y (vec_mat p.multipliers (rows_of qp.g.rows p.set))) (dot-add_right (mat_vec qp.h.rows p.point) (mat_vec qp.f.rows (extended t)) y)
          ∙ corner.balanced y);
      tight = tight_rows p.set corner.tight;
    };
  }

  pub corner_feasible : IsInBox qp.counts t → IsFirstViolated qp (sides_at qp t) p.point None → IsFeasible qp t p.point
  corner_feasible box met = record {
    in_box = box;
    size = corner.size;
    meets = at_most_by_entries (mat_vec qp.g.rows p.point) (mat_vec qp.w.rows (extended t))
        (length-mat_vec qp.g.rows p.point ∙ sym qp.is_program.w_shape.rows_are ∙ sym (length-mat_vec qp.w.rows (extended t)))
        (λ i l.
        let within : i < height qp.g = omega (arith, length-mat_vec qp.g.rows p.point) in
        let place : suc i - 1 ≡ i = omega arith in
        subst (λ u. u ≤ℚ coordinate (mat_vec qp.w.rows (extended t)) i) (sym (coordinate-mat_vec qp.g.rows p.point i))
        (subst (λ k. dot (get_or qp.g.rows k []) p.point ≤ℚ coordinate (mat_vec qp.w.rows (extended t)) k) place
        (≤ℚ_of_not-< (λ above. met (suc i) (omega arith) (omega arith) (record { above = above })))));
  }
