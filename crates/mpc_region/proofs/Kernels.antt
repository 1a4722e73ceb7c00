-- Where a system has one solution, its matrix sends no other list than zeros to 0.
use Rattle.std.proofs.Common.{◌≡◌, ℕ, ◌<◌, List, [], ◌∷◌, length, get_or, pos, negsuc, refl, sym, ◌∙◌, ap, arith}
use Rattle.mpc_exact.specs.Rational.{ℚ, int, ◌+ℚ◌, ◌*ℚ◌}
use Rattle.mpc_exact.proofs.RationalRing.{reads, by_ring, by_equations}
use Rattle.mpc_space.specs.Vector.{coordinate, column, dot, vec_add, vec_scale, mat_vec, IsZero}
use Rattle.mpc_space.specs.Matrix.{RationalMatrix, height, entry, mat_mul, tabled}
use Rattle.mpc_space.specs.Total.{unit}
use Rattle.mpc_space.proofs.Total.{unit-same}
use Rattle.mpc_space.proofs.Vector.{dot-add_right, dot-scale_right}
use Rattle.mpc_space.proofs.Entries.{same_entries, coordinate-add, coordinate-scale, length-add, length-scale, zero_entries, zero_by_entries}
use Rattle.mpc_space.proofs.Matrix.{same_matrix, rectangular-mat_mul, height-mat_mul, entry-mat_mul, rectangular-tabled, height-tabled, entry-tabled, length-column, coordinate-column, coordinate-mat_vec}
use Rattle.mpc_linear.specs.Solution.{IsOnlySolution}

no_more : (a b u : ℚ) → u ≡ int (pos 0) → a +ℚ b *ℚ u ≡ a
no_more a b u e = ap (λ z. a +ℚ b *ℚ z) e ∙ by_ring (a ∷ b ∷ []) (search reads depth 30) (search reads depth 30) tt

cancelled : (a b u : ℚ) → u ≡ int (pos 1) → a +ℚ u *ℚ b ≡ a → b ≡ int (pos 0)
cancelled a b u e f = by_equations (int (pos 1)) (int (negsuc 0) *ℚ b) f e (by_ring (a ∷ b ∷ u ∷ []) (search reads depth 30) (search reads depth 30) tt)

module _ (m rhs x : RationalMatrix) (sol : IsOnlySolution m rhs x) (some : 0 < rhs.columns) (v : List ℚ) (size : length v ≡ m.columns) (zero : IsZero (mat_vec m.rows v)) where
  abbrev other_entry : ℕ → ℕ → ℚ
  other_entry i j = entry x i j +ℚ unit 0 j *ℚ coordinate v i

  abbrev other : RationalMatrix
  other = tabled m.columns rhs.columns other_entry

  other_column : (j : ℕ) → j < rhs.columns → column other.rows j ≡ vec_add (column x.rows j) (vec_scale (unit 0 j) v)
  other_column j h =
      same_entries (column other.rows j) (vec_add (column x.rows j) (vec_scale (unit 0 j) v))
      (length-column other.rows j ∙ height-tabled m.columns rhs.columns other_entry ∙ sym (length-add (column x.rows j) (vec_scale (unit 0 j) v) same_size ∙ length-column x.rows j ∙ sol.shape.rows_are))
      (λ i l.
      let l' : i < m.columns = omega (arith, length-column other.rows j, height-tabled m.columns rhs.columns other_entry) in
      coordinate-column other.rows i j ∙ entry-tabled m.columns rhs.columns other_entry i j l' h
      ∙ sym (coordinate-add (column x.rows j) (vec_scale (unit 0 j) v) i ∙ (λ z. coordinate-column x.rows i j z +ℚ coordinate-scale (unit 0 j) v i z)))
    where
      same_size : length (column x.rows j) ≡ length (vec_scale (unit 0 j) v)
      same_size = length-column x.rows j ∙ sol.shape.rows_are ∙ sym (length-scale (unit 0 j) v ∙ size)

  other_solves : mat_mul m other ≡ rhs
  other_solves =
      same_matrix (mat_mul m other) (mat_mul m x) (rectangular-mat_mul m other) (rectangular-mat_mul m x) (height-mat_mul m other ∙ sym (height-mat_mul m x)) (sym sol.shape.columns_are)
      (λ i j hi hj.
      let i_in : i < height m = omega (arith, height-mat_mul m other) in
      let j_in : j < x.columns = omega (arith, sol.shape.columns_are) in
      let row = get_or m.rows i [] in
      entry-mat_mul m other i j i_in hj ∙ ap (dot row) (other_column j hj)
      ∙ dot-add_right (column x.rows j) (vec_scale (unit 0 j) v) row ∙ ap (λ u. dot row (column x.rows j) +ℚ u) (dot-scale_right (unit 0 j) v row)
      ∙ no_more (dot row (column x.rows j)) (unit 0 j) (dot row v) (sym (coordinate-mat_vec m.rows v i) ∙ zero_entries (mat_vec m.rows v) zero i)
      ∙ sym (entry-mat_mul m x i j i_in j_in))
      ∙ sol.solves

  pub only_kernel : IsZero v
  only_kernel =
      zero_by_entries v (λ i h.
      let i_in : i < m.columns = omega (arith, size) in
      cancelled (entry x i 0) (coordinate v i) (unit 0 0) (unit-same 0 0 refl)
      (sym (entry-tabled m.columns rhs.columns other_entry i 0 i_in some)
      ∙ ap (λ y. entry y i 0) (sol.only other (record { rows_are = height-tabled m.columns rhs.columns other_entry; columns_are = refl; rectangular = rectangular-tabled m.columns rhs.columns other_entry }) other_solves)))
