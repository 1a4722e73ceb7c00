-- The solution of an active set's equations is its law.
use Rattle.std.proofs.Common.{◌≡◌, ℕ, ◌+◌, ◌-◌, ◌<◌, ◌≤◌, List, [], ◌∷◌, ◌++◌, length, get_or, pos, negsuc, sym, ◌∙◌, ap, subst, arith, ⊎_elim}
use Rattle.std.proofs.lemmas.Bool.{cases_lt}
use Rattle.std.proofs.lemmas.List.{length-append, get_or_append_left}
use Rattle.std.proofs.lemmas.List.FromFn.{get_or-map-range_with_len}
use Rattle.mpc_exact.specs.Rational.{ℚ, int, ◌+ℚ◌, ◌*ℚ◌}
use Rattle.mpc_exact.proofs.RationalRing.{reads, by_ring, by_equations}
use Rattle.mpc_space.specs.Vector.{coordinate, column, dot, listed, vec_add, mat_vec, vec_mat}
use Rattle.mpc_space.specs.Matrix.{RationalMatrix, height, entry, tabled}
use Rattle.mpc_space.proofs.Vector.{dot_comm}
use Rattle.mpc_space.proofs.Entries.{same_entries, coordinate-add, coordinate-listed, length-add_within, dot_same, zero_by_entries}
use Rattle.mpc_space.proofs.Matrix.{length-mat_vec, coordinate-mat_vec, coordinate-vec_mat, mat_vec-mat_mul, height-tabled, rectangular-tabled}
use Rattle.mpc_linear.specs.Solution.{IsOnlySolution}
use Rattle.mpc_sets.specs.RowSet.{IsSetOfRows}
use Rattle.mpc_rows.specs.declared.programs.Qp.{Qp}
use Rattle.mpc_rows.specs.declared.laws.Law.{Law}
use Rattle.mpc_rows.specs.ActiveSets.{extended, rows_of, MeetsEquations}
use Rattle.mpc_rows.specs.Laws.{IsLaw}
use Rattle.mpc_rows.specs.SetRuns.{law_matrix, law_right}
use Rattle.mpc_region.proofs.Members.{length-rows_of, rows_within}
use Rattle.mpc_region.proofs.Products.{upper_dot, lower_dot, upper_right_dot, lower_right_dot, coordinate_behind}
use Rattle.mpc_region.proofs.LawTheorem.{matrix_columns, right_columns, combination_within}

-- h z + g'l is the negative of f c
balanced : (a b f p : ℚ) → p ≡ a +ℚ b → p ≡ int (negsuc 0) *ℚ f → a +ℚ f +ℚ b ≡ int (pos 0)
balanced a b f p e k = by_equations (int (negsuc 0)) (int (pos 1)) e k (by_ring (a ∷ b ∷ f ∷ p ∷ []) (search reads depth 30) (search reads depth 30) tt)

module _ (qp : Qp) (s : List ℕ) (x : RationalMatrix) (sol : IsOnlySolution (law_matrix qp s) (law_right qp s) x) where
  abbrev n : ℕ
  n = height qp.h

  abbrev m : RationalMatrix
  m = law_matrix qp s

  abbrev rhs : RationalMatrix
  rhs = law_right qp s

  abbrev g : List (List ℚ)
  g = rows_of qp.g.rows s

  abbrev part : ℕ → ℕ → RationalMatrix
  part first count = tabled count x.columns (λ i j. entry x (first + i) j)

  x_columns : x.columns ≡ length qp.counts + 1
  x_columns = sol.shape.columns_are ∙ right_columns qp s

  x_height : height x ≡ n + length s
  x_height = sol.shape.rows_are ∙ matrix_columns qp s

  module _ (t : List ℚ) (t_size : length t ≡ length qp.counts) where
    abbrev c : List ℚ
    c = extended t

    abbrev z : List ℚ
    z = mat_vec (part 0 n).rows c

    abbrev l : List ℚ
    l = mat_vec (part n (length s)).rows c

    c_size : length c ≡ length qp.counts + 1
    c_size = omega arith

    z_size : length z ≡ n
    z_size = length-mat_vec (part 0 n).rows c ∙ height-tabled n x.columns (λ i j. entry x (0 + i) j)

    l_size : length l ≡ length s
    l_size = length-mat_vec (part n (length s)).rows c ∙ height-tabled (length s) x.columns (λ i j. entry x (n + i) j)

    -- a row of a part is the row of x
    part_entry : (first count i : ℕ) → i < count → coordinate (mat_vec (part first count).rows c) i ≡ dot (get_or x.rows (first + i) []) c
    part_entry first count i h =
        coordinate-mat_vec (part first count).rows c i
        ∙ ap (λ row. dot row c) (get_or-map-range_with_len (λ i. listed x.columns (λ j. entry x (first + i) j)) 0 count i i [] h (omega arith))
        ∙ dot_comm (listed x.columns (λ j. entry x (first + i) j)) c
        ∙ dot_same c (listed x.columns (λ j. entry x (first + i) j)) (get_or x.rows (first + i) []) (λ j k. coordinate-listed x.columns (λ j. entry x (first + i) j) j (omega (arith, x_columns)))
        ∙ dot_comm c (get_or x.rows (first + i) [])

    parts : mat_vec x.rows c ≡ z ++ l
    parts =
        same_entries (mat_vec x.rows c) (z ++ l) (length-mat_vec x.rows c ∙ x_height ∙ sym (length-append z l ∙ (λ u. z_size u + l_size u)))
        (λ i h.
        let i_in : i < n + length s = omega (arith, length-mat_vec x.rows c, x_height) in
        coordinate-mat_vec x.rows c i
        ∙ ⊎_elim
        (λ k. ap (λ r. dot (get_or x.rows r []) c) (omega arith) ∙ sym (part_entry 0 n i k) ∙ sym (get_or_append_left z l (int (pos 0)) i (omega (arith, z_size))))
        (λ k.
        let e : n + (i - n) ≡ i = omega arith in
        ap (λ r. dot (get_or x.rows r []) c) (sym e) ∙ sym (part_entry n (length s) (i - n) (omega arith)) ∙ sym (coordinate_behind z l n (i - n) z_size) ∙ ap (coordinate (z ++ l)) e)
        (cases_lt i n))

    -- each row of the equations at t
    row_at : (i : ℕ) → dot (get_or m.rows i []) (z ++ l) ≡ dot (get_or rhs.rows i []) c
    row_at i =
        ap (dot (get_or m.rows i [])) (sym parts) ∙ sym (coordinate-mat_vec m.rows (mat_vec x.rows c) i)
        ∙ ap (λ v. coordinate v i) (sym (mat_vec-mat_mul m x c (omega (arith, x_columns))))
        ∙ ap (λ a. coordinate (mat_vec a.rows c) i) sol.solves
        ∙ coordinate-mat_vec rhs.rows c i

    gradient_entry : (i : ℕ) → i < n → coordinate (vec_add (vec_add (mat_vec qp.h.rows z) (mat_vec qp.f.rows c)) (vec_mat l g)) i ≡ int (pos 0)
    gradient_entry i h =
        coordinate-add (vec_add (mat_vec qp.h.rows z) (mat_vec qp.f.rows c)) (vec_mat l g) i
        ∙ (λ u. (coordinate-add (mat_vec qp.h.rows z) (mat_vec qp.f.rows c) i ∙ (λ v. coordinate-mat_vec qp.h.rows z i v +ℚ coordinate-mat_vec qp.f.rows c i v)) u +ℚ coordinate-vec_mat l g i u)
        ∙ balanced (dot (get_or qp.h.rows i []) z) (dot l (column g i)) (dot (get_or qp.f.rows i []) c) (dot (get_or m.rows i []) (z ++ l))
        (upper_dot qp s z l z_size l_size i h) (row_at i ∙ upper_right_dot qp s c c_size i h)

    meets_equations : MeetsEquations qp s t z l
    meets_equations = record {
      stationary = zero_by_entries (vec_add (vec_add (mat_vec qp.h.rows z) (mat_vec qp.f.rows c)) (vec_mat l g)) (λ i h. gradient_entry i (let b = gradient_within in omega arith));
      tight = same_entries (mat_vec g z) (mat_vec (rows_of qp.w.rows s) c)
          (length-mat_vec g z ∙ length-rows_of qp.g.rows s ∙ sym (length-mat_vec (rows_of qp.w.rows s) c ∙ length-rows_of qp.w.rows s))
          (λ r h.
          let r_in : r < length s = omega (arith, length-mat_vec g z, length-rows_of qp.g.rows s) in
          coordinate-mat_vec g z r ∙ sym (lower_dot qp s z l z_size l_size r r_in) ∙ row_at (n + r) ∙ lower_right_dot qp s c c_size r r_in ∙ sym (coordinate-mat_vec (rows_of qp.w.rows s) c r));
    }
      where
        shapes : (length (mat_vec qp.f.rows c) ≤ n) × (length (vec_mat l g) ≤ n)
        shapes =
            let p = qp.is_program.f_shape in
            let q = qp.is_program.g_shape in
            (omega (arith, length-mat_vec qp.f.rows c, p.rows_are), combination_within n l g (rows_within qp.g n s q.rectangular q.columns_are))

        gradient_within : length (vec_add (vec_add (mat_vec qp.h.rows z) (mat_vec qp.f.rows c)) (vec_mat l g)) ≤ n
        gradient_within =
            length-add_within n (vec_add (mat_vec qp.h.rows z) (mat_vec qp.f.rows c)) (vec_mat l g)
            (length-add_within n (mat_vec qp.h.rows z) (mat_vec qp.f.rows c) (omega (arith, length-mat_vec qp.h.rows z)) shapes.0) shapes.1

  -- the parts of the solution are the law
  pub law_is : (law : Law) → IsSetOfRows (height qp.g) s → length s ≤ n → law.set ≡ s → law.moves ≡ part 0 n → law.mults ≡ part n (length s) → IsLaw qp law
  law_is law set_of_rows few e f k = subst (IsLaw qp) (λ i. record { set = sym e i; moves = sym f i; mults = sym k i }) (record {
    shape = record {
      set_of_rows = set_of_rows;
      few = few;
      moves_shape = record { rows_are = height-tabled n x.columns (λ i j. entry x (0 + i) j); columns_are = x_columns; rectangular = rectangular-tabled n x.columns (λ i j. entry x (0 + i) j) };
      mults_shape = record { rows_are = height-tabled (length s) x.columns (λ i j. entry x (n + i) j); columns_are = x_columns; rectangular = rectangular-tabled (length s) x.columns (λ i j. entry x (n + i) j) };
    };
    equations = meets_equations;
  })
