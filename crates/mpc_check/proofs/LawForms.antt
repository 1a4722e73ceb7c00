-- A law's affine forms meet the equations of its set coefficient by coefficient, since they do at every point.
use Rattle.std.proofs.Common.{◌≡◌, ℕ, ◌+◌, ◌<◌, List, [], length, get_or, sym, ◌∙◌, ap}
use Rattle.std.proofs.lemmas.List.{get_or-map}
use Rattle.mpc_exact.specs.Rational.{ℚ}
use Rattle.mpc_space.specs.Vector.{coordinate, dot, mat_vec, vec_mat}
use Rattle.mpc_space.proofs.Vector.{dot_comm}
use Rattle.mpc_space.proofs.Entries.{zero_entries}
use Rattle.mpc_space.proofs.Matrix.{coordinate-mat_vec, coordinate-vec_mat}
use Rattle.mpc_rows.specs.declared.programs.Qp.{Qp}
use Rattle.mpc_rows.specs.declared.laws.Law.{Law}
use Rattle.mpc_rows.specs.ActiveSets.{extended, row_of, rows_of}
use Rattle.mpc_rows.specs.Laws.{IsLaw, moves_at}
use Rattle.mpc_rows.specs.LawTheorems.{SameCoefficients}
use Rattle.mpc_check.specs.LawConditions.{IsStationaryAt, IsActiveAt}
use Rattle.mpc_check.proofs.GradientForms.{against, form, form_entry, gradient, gradient_entry}

module _ (same_coefficients : SameCoefficients) (qp : Qp) (law : Law) (is : IsLaw qp law) where
  form_zero : (r : ℕ) (t : List ℚ) → length t ≡ length qp.counts → dot (form qp law r) (extended t) ≡ dot [] (extended t)
  form_zero r t e = dot_comm (form qp law r) (extended t) ∙ sym (gradient_entry qp law r t) ∙ zero_entries (gradient qp law t) (is.equations t e).stationary r

  pub stationary_at : (r j : ℕ) → j < length qp.counts + 1 → IsStationaryAt qp law r j
  stationary_at r j h = sym (form_entry qp law r j) ∙ same_coefficients (length qp.counts) (form qp law r) [] (form_zero r) j h

  -- a member's row
  member_row : (m : List (List ℚ)) (x : List ℚ) (k : ℕ) → k < length law.set → coordinate (mat_vec (rows_of m law.set) x) k ≡ dot (row_of m (get_or law.set k 0)) x
  member_row m x k h = coordinate-mat_vec (rows_of m law.set) x k ∙ ap (λ row. dot row x) (get_or-map (row_of m) law.set k 0 [] h)

  member_value : (k : ℕ) → k < length law.set → (t : List ℚ) → length t ≡ length qp.counts → dot (row_of qp.g.rows (get_or law.set k 0)) (moves_at law t) ≡ dot (row_of qp.w.rows (get_or law.set k 0)) (extended t)
  member_value k h t e = sym (member_row qp.g.rows (moves_at law t) k h) ∙ ap (λ xs. coordinate xs k) (is.equations t e).tight ∙ member_row qp.w.rows (extended t) k h

  pub active_at : (k j : ℕ) → k < length law.set → j < length qp.counts + 1 → IsActiveAt qp law (get_or law.set k 0) j
  active_at k j within h =
      let i = get_or law.set k 0 in
      sym (coordinate-vec_mat (row_of qp.g.rows i) law.moves.rows j)
      ∙ same_coefficients (length qp.counts) (vec_mat (row_of qp.g.rows i) law.moves.rows) (row_of qp.w.rows i)
      (λ t e. dot_comm (vec_mat (row_of qp.g.rows i) law.moves.rows) (extended t) ∙ sym (against (row_of qp.g.rows i) (extended t) law.moves.rows) ∙ member_value k within t e) j h
