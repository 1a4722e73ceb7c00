-- Line r of the gradient of a law's Lagrangian, as an affine form on the extended counts.
use Rattle.std.proofs.Common.{◌≡◌, ℕ, List, [], ◌∷◌, get_or, sym, ◌∙◌, ap}
use Rattle.mpc_exact.specs.Rational.{ℚ, ◌+ℚ◌}
use Rattle.mpc_exact.proofs.RationalRing.{reads, by_ring}
use Rattle.mpc_space.specs.Vector.{coordinate, column, dot, vec_add, mat_vec, vec_mat}
use Rattle.mpc_space.proofs.Vector.{dot_comm, dot-add_right}
use Rattle.mpc_space.proofs.Entries.{coordinate-add}
use Rattle.mpc_space.proofs.Matrix.{coordinate-mat_vec, coordinate-vec_mat, dot-vec_mat}
use Rattle.mpc_rows.specs.declared.programs.Qp.{Qp}
use Rattle.mpc_rows.specs.declared.laws.Law.{Law}
use Rattle.mpc_rows.specs.ActiveSets.{extended, rows_of}
use Rattle.mpc_rows.specs.Laws.{moves_at, mults_at}
use Rattle.mpc_check.specs.LawConditions.{gradient_at}

-- ---- an affine form at a point
pub against : (row c : List ℚ) (m : List (List ℚ)) → dot row (mat_vec m c) ≡ dot c (vec_mat row m)
against row c m = dot_comm row (mat_vec m c) ∙ dot-vec_mat m c row

reordered : (a b d : ℚ) → a +ℚ b +ℚ d ≡ b +ℚ a +ℚ d
reordered a b d = by_ring (a ∷ b ∷ d ∷ []) (search reads depth 30) (search reads depth 30) tt

module _ (qp : Qp) (law : Law) where
  abbrev pub g : List (List ℚ)
  g = rows_of qp.g.rows law.set

  -- line r of the gradient as a form: what f and the moves give, and with the multipliers
  abbrev pub moved : ℕ → List ℚ
  moved r = vec_add (get_or qp.f.rows r []) (vec_mat (get_or qp.h.rows r []) law.moves.rows)

  abbrev pub form : ℕ → List ℚ
  form r = vec_add (moved r) (vec_mat (column g r) law.mults.rows)

  pub form_entry : (r j : ℕ) → coordinate (form r) j ≡ gradient_at qp law r j
  form_entry r j =
      coordinate-add (moved r) (vec_mat (column g r) law.mults.rows) j
      ∙ (λ u. (coordinate-add (get_or qp.f.rows r []) (vec_mat (get_or qp.h.rows r []) law.moves.rows) j ∙ ap (λ x. coordinate (get_or qp.f.rows r []) j +ℚ x) (coordinate-vec_mat (get_or qp.h.rows r []) law.moves.rows j)) u +ℚ coordinate-vec_mat (column g r) law.mults.rows j u)

  pub form_value : (r : ℕ) (c : List ℚ) → dot (get_or qp.h.rows r []) (mat_vec law.moves.rows c) +ℚ dot (get_or qp.f.rows r []) c +ℚ dot (mat_vec law.mults.rows c) (column g r) ≡ dot c (form r)
  form_value r c =
      (λ u. against (get_or qp.h.rows r []) c law.moves.rows u +ℚ dot_comm (get_or qp.f.rows r []) c u +ℚ dot-vec_mat law.mults.rows c (column g r) u)
      ∙ reordered (dot c (vec_mat (get_or qp.h.rows r []) law.moves.rows)) (dot c (get_or qp.f.rows r [])) (dot c (vec_mat (column g r) law.mults.rows))
      ∙ sym (dot-add_right (moved r) (vec_mat (column g r) law.mults.rows) c ∙ ap (λ x. x +ℚ dot c (vec_mat (column g r) law.mults.rows)) (dot-add_right (get_or qp.f.rows r []) (vec_mat (get_or qp.h.rows r []) law.moves.rows) c))

  abbrev pub gradient : List ℚ → List ℚ
  gradient t = vec_add (vec_add (mat_vec qp.h.rows (moves_at law t)) (mat_vec qp.f.rows (extended t))) (vec_mat (mults_at law t) g)

  pub gradient_entry : (r : ℕ) (t : List ℚ) → coordinate (gradient t) r ≡ dot (extended t) (form r)
  gradient_entry r t =
      coordinate-add (vec_add (mat_vec qp.h.rows (moves_at law t)) (mat_vec qp.f.rows (extended t))) (vec_mat (mults_at law t) g) r
      ∙ (λ u. (coordinate-add (mat_vec qp.h.rows (moves_at law t)) (mat_vec qp.f.rows (extended t)) r ∙ (λ v. coordinate-mat_vec qp.h.rows (moves_at law t) r v +ℚ coordinate-mat_vec qp.f.rows (extended t) r v)) u +ℚ coordinate-vec_mat (mults_at law t) g r u)
      ∙ form_value r (extended t)
