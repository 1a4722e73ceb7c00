-- What the elimination shows of an active set: its law where there is one solution, and else that its rows are dependent.
use Rattle.std.proofs.Common.{◌≡◌, ℕ, zero, suc, ◌+◌, ◌-◌, ◌<◌, ◌≤◌, List, [], ◌∷◌, ◌++◌, length, get_or, take, drop, pos, refl, sym, ◌∙◌, ap, subst, arith, ⊎_elim}
use Rattle.std.proofs.lemmas.Bool.{cases_lt}
use Rattle.std.proofs.lemmas.List.{length-append, length-take-le, length-drop, take-append-drop}
use Rattle.mpc_exact.specs.Rational.{ℚ, int, ◌+ℚ◌}
use Rattle.mpc_exact.proofs.Rational.{+ℚ_zero}
use Rattle.mpc_exact.proofs.OrderTheorems.{one-not_zero}
use Rattle.mpc_space.specs.Vector.{coordinate, vec_add, vec_scale, mat_vec, vec_mat, zeros, IsZero}
use Rattle.mpc_space.specs.Matrix.{RationalMatrix, height}
use Rattle.mpc_space.specs.Definite.{IsDefinite}
use Rattle.mpc_space.proofs.Entries.{coordinate-add, length-add_within, length-scale, dot-zero, zero_entries, zero_by_entries, zeros_zero}
use Rattle.mpc_space.proofs.Matrix.{length-mat_vec, coordinate-mat_vec, coordinate-vec_mat, height-tabled}
use Rattle.mpc_space.proofs.Optimality.{kernel_point, kernel_factors}
use Rattle.mpc_linear.specs.Solution.{IsOnlySolution, IsFirstDependent}
use Rattle.mpc_rows.specs.declared.programs.Qp.{Qp}
use Rattle.mpc_rows.specs.ActiveSets.{rows_of, IsIndependentSet}
use Rattle.mpc_rows.specs.SetRuns.{law_matrix, law_right}
use Rattle.mpc_region.proofs.Members.{length-rows_of, rows_within}
use Rattle.mpc_region.proofs.Kernels.{only_kernel}
use Rattle.mpc_region.proofs.Products.{upper_dot, lower_dot}

-- ---- shapes
pub matrix_height : (qp : Qp) (s : List ℕ) → height (law_matrix qp s) ≡ height qp.h + length s
unfolding law_matrix
matrix_height qp s = height-tabled (height qp.h + length s) (height qp.h + length s) _

pub matrix_columns : (qp : Qp) (s : List ℕ) → (law_matrix qp s).columns ≡ height qp.h + length s
unfolding law_matrix
matrix_columns qp s = refl

pub right_height : (qp : Qp) (s : List ℕ) → height (law_right qp s) ≡ height qp.h + length s
unfolding law_right
right_height qp s = height-tabled (height qp.h + length s) (length qp.counts + 1) _

pub right_columns : (qp : Qp) (s : List ℕ) → (law_right qp s).columns ≡ length qp.counts + 1
unfolding law_right
right_columns qp s = refl

pub combination_within : (n : ℕ) (l : List ℚ) (rows : List (List ℚ)) → ((i : ℕ) → length (get_or rows i []) ≤ n) → length (vec_mat l rows) ≤ n
combination_within n [] rows h = omega arith
combination_within n (y ∷ l) [] h = omega arith
combination_within n (y ∷ l) (row ∷ rows) h = length-add_within n (vec_scale y row) (vec_mat l rows) (let a = h 0 in omega (arith, length-scale y row)) (combination_within n l rows (λ i. h (suc i)))

module _ (qp : Qp) (s : List ℕ) where
  abbrev n : ℕ
  n = height qp.h

  abbrev m : RationalMatrix
  m = law_matrix qp s

  abbrev rhs : RationalMatrix
  rhs = law_right qp s

  abbrev g : List (List ℚ)
  g = rows_of qp.g.rows s

  g_within : (i : ℕ) → length (get_or g i []) ≤ n
  g_within = let p = qp.is_program.g_shape in rows_within qp.g n s p.rectangular p.columns_are

  -- ---- what the matrix sends to 0
  module _ (z l : List ℚ) (z_size : length z ≡ n) (l_size : length l ≡ length s) where
    upper_entry : (i : ℕ) → i < n → coordinate (mat_vec m.rows (z ++ l)) i ≡ coordinate (vec_add (mat_vec qp.h.rows z) (vec_mat l g)) i
    upper_entry i h =
        coordinate-mat_vec m.rows (z ++ l) i ∙ upper_dot qp s z l z_size l_size i h
        ∙ sym (coordinate-add (mat_vec qp.h.rows z) (vec_mat l g) i ∙ (λ t. coordinate-mat_vec qp.h.rows z i t +ℚ coordinate-vec_mat l g i t))

    lower_entry : (r : ℕ) → r < length s → coordinate (mat_vec m.rows (z ++ l)) (n + r) ≡ coordinate (mat_vec g z) r
    lower_entry r h = coordinate-mat_vec m.rows (z ++ l) (n + r) ∙ lower_dot qp s z l z_size l_size r h ∙ sym (coordinate-mat_vec g z r)

    gradient_within : length (vec_add (mat_vec qp.h.rows z) (vec_mat l g)) ≤ n
    gradient_within = length-add_within n (mat_vec qp.h.rows z) (vec_mat l g) (omega (arith, length-mat_vec qp.h.rows z)) (combination_within n l g g_within)

    gradient_zero : IsZero (mat_vec m.rows (z ++ l)) → IsZero (vec_add (mat_vec qp.h.rows z) (vec_mat l g))
    gradient_zero k =
        zero_by_entries (vec_add (mat_vec qp.h.rows z) (vec_mat l g))
        (λ i h. sym (upper_entry i (let b = gradient_within in omega arith)) ∙ zero_entries (mat_vec m.rows (z ++ l)) k i)

    rows_zero : IsZero (mat_vec m.rows (z ++ l)) → IsZero (mat_vec g z)
    rows_zero k =
        zero_by_entries (mat_vec g z)
        (λ r h. sym (lower_entry r (omega (arith, length-mat_vec g z, length-rows_of qp.g.rows s))) ∙ zero_entries (mat_vec m.rows (z ++ l)) k (n + r))

    product_zero : IsZero (vec_add (mat_vec qp.h.rows z) (vec_mat l g)) → IsZero (mat_vec g z) → IsZero (mat_vec m.rows (z ++ l))
    product_zero a b =
        zero_by_entries (mat_vec m.rows (z ++ l))
        (λ i h. ⊎_elim
        (λ k. upper_entry i k ∙ zero_entries (vec_add (mat_vec qp.h.rows z) (vec_mat l g)) a i)
        (λ k.
        let e : n + (i - n) ≡ i = omega arith in
        ap (coordinate (mat_vec m.rows (z ++ l))) (sym e) ∙ lower_entry (i - n) (omega (arith, length-mat_vec m.rows (z ++ l), matrix_height qp s)) ∙ zero_entries (mat_vec g z) b (i - n))
        (cases_lt i n))

  both_zero : (z l : List ℚ) → IsZero z → IsZero l → (i : ℕ) → coordinate (z ++ l) i ≡ int (pos 0)
  both_zero [] l a b i = zero_entries l b i
  both_zero (x ∷ z) l a b zero = a.0
  both_zero (x ∷ z) l a b (suc i) = both_zero z l a.1 b i

  -- a column that depends on those before it shows a dependence of the set's rows
  pub dependent_rows : IsDefinite qp.h.rows → (index : ℕ) → IsFirstDependent m index → ¬ IsIndependentSet qp s
  dependent_rows d index k independent =
      let v = k.factors in
      let v_size : length v ≡ n + length s = k.size ∙ matrix_columns qp s in
      let z = take n v in
      let l = drop n v in
      let z_size : length z ≡ n = length-take-le n v (omega arith) in
      let l_size : length l ≡ length s = length-drop n v ∙ omega arith in
      let parts : z ++ l ≡ v = take-append-drop n v in
      let sent : IsZero (mat_vec m.rows (z ++ l)) = subst (λ u. IsZero (mat_vec m.rows u)) (sym parts) k.sent_to_zero in
      let above = gradient_zero z l z_size l_size sent in
      let below = rows_zero z l z_size l_size sent in
      one-not_zero (sym k.one ∙ ap (λ u. coordinate u index) (sym parts)
      ∙ both_zero z l (kernel_point qp.h.rows g z l above below d z_size) (kernel_factors qp.h.rows g z l above below d z_size independent (l_size ∙ sym (length-rows_of qp.g.rows s))) index)

  -- where there is one solution, the set's rows are independent
  pub independent_rows : (x : RationalMatrix) → IsOnlySolution m rhs x → IsIndependentSet qp s
  independent_rows x sol = record {
    only_zero = λ l e k.
        let l_size : length l ≡ length s = e ∙ length-rows_of qp.g.rows s in
        let z_size : length (zeros n) ≡ n = length-zeros n in
        let none : IsZero (zeros n ++ l) = only_kernel m rhs x sol (omega (arith, right_columns qp s)) (zeros n ++ l) (length-append (zeros n) l ∙ (λ t. z_size t + l_size t) ∙ sym (matrix_columns qp s)) (product_zero (zeros n) l z_size l_size (no_gradient l k) (no_products g)) in
        later_zero (zeros n) l none;
  }
    where
      length-zeros : (n : ℕ) → length (zeros n) ≡ n
      length-zeros zero = refl
      length-zeros (suc n) = ap suc (length-zeros n)

      no_products : (rows : List (List ℚ)) → IsZero (mat_vec rows (zeros n))
      no_products [] = tt
      no_products (row ∷ rows) = (dot-zero row (zeros n) (zeros_zero n), no_products rows)

      no_gradient : (l : List ℚ) → IsZero (vec_mat l g) → IsZero (vec_add (mat_vec qp.h.rows (zeros n)) (vec_mat l g))
      no_gradient l k =
          zero_by_entries (vec_add (mat_vec qp.h.rows (zeros n)) (vec_mat l g))
          (λ i h. coordinate-add (mat_vec qp.h.rows (zeros n)) (vec_mat l g) i ∙ (λ t. zero_entries (mat_vec qp.h.rows (zeros n)) (no_products qp.h.rows) i t +ℚ zero_entries (vec_mat l g) k i t) ∙ +ℚ_zero (int (pos 0)))

      later_zero : (z l : List ℚ) → IsZero (z ++ l) → IsZero l
      later_zero [] l k = k
      later_zero (x ∷ z) l k = later_zero z l k.1
