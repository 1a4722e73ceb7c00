-- A law whose coefficients meet the conditions of Karush, Kuhn and Tucker meets the equations of its set at every point.
use Rattle.std.proofs.Common.{◌≡◌, ℕ, zero, suc, ◌-◌, ◌<◌, ◌≤◌, List, [], ◌∷◌, length, get_or, refl, sym, ◌∙◌, ap, arith, ⊎_elim}
use Rattle.std.proofs.lemmas.Bool.{cases_lt}
use Rattle.std.proofs.lemmas.List.{get_or-map, length-map}
use Rattle.mpc_exact.specs.Rational.{ℚ}
use Rattle.mpc_space.specs.Vector.{coordinate, dot, vec_add, vec_scale, mat_vec, vec_mat}
use Rattle.mpc_space.specs.Matrix.{RationalMatrix, height, IsRectangular}
use Rattle.mpc_space.proofs.Vector.{dot_comm}
use Rattle.mpc_space.proofs.Entries.{same_entries, length-add_within, length-scale, dot_same, dot_nil, zero_by_entries}
use Rattle.mpc_space.proofs.Matrix.{length-mat_vec, coordinate-mat_vec, coordinate-vec_mat}
use Rattle.mpc_rows.specs.declared.programs.Qp.{Qp}
use Rattle.mpc_rows.specs.declared.laws.Law.{Law}
use Rattle.mpc_rows.specs.ActiveSets.{extended, row_of, rows_of, IsTight, MeetsEquations}
use Rattle.mpc_rows.specs.Laws.{HasLawShape, IsLaw, moves_at, mults_at}
use Rattle.mpc_check.specs.LawConditions.{LawMet}
use Rattle.mpc_check.proofs.GradientForms.{against, form, form_entry, gradient_entry as gradient_form}

-- ---- sizes
row_within : (m : RationalMatrix) (n i : ℕ) → IsRectangular m → m.columns ≡ n → length (get_or m.rows i []) ≤ n
row_within m n i r e = ⊎_elim (λ l. omega (arith, r i [] l)) (λ l. omega (arith, past m.rows i l)) (cases_lt i (height m))
  where
    past : (rows : List (List ℚ)) (i : ℕ) → length rows ≤ i → length (get_or rows i []) ≡ 0
    past [] i h = refl
    past (row ∷ rows) zero h = absurd (omega arith)
    past (row ∷ rows) (suc i) h = past rows i (omega arith)

rows_within : (m : RationalMatrix) (n : ℕ) (s : List ℕ) → IsRectangular m → m.columns ≡ n → (i : ℕ) → length (get_or (rows_of m.rows s) i []) ≤ n
rows_within m n [] r e i = omega arith
rows_within m n (j ∷ s) r e zero = row_within m n (j - 1) r e
rows_within m n (j ∷ s) r e (suc i) = rows_within m n s r e i

combination_within : (n : ℕ) (l : List ℚ) (rows : List (List ℚ)) → ((i : ℕ) → length (get_or rows i []) ≤ n) → length (vec_mat l rows) ≤ n
combination_within n [] rows h = omega arith
combination_within n (y ∷ l) [] h = omega arith
combination_within n (y ∷ l) (row ∷ rows) h = length-add_within n (vec_scale y row) (vec_mat l rows) (let a = h 0 in omega (arith, length-scale y row)) (combination_within n l rows (λ i. h (suc i)))

-- ---- the equations at a point
module _ (qp : Qp) (law : Law) (shape : HasLawShape qp law) (met : LawMet qp law) (t : List ℚ) (size : length t ≡ length qp.counts) where
  abbrev c : List ℚ
  c = extended t

  abbrev g : List (List ℚ)
  g = rows_of qp.g.rows law.set

  abbrev z : List ℚ
  z = moves_at law t

  abbrev l : List ℚ
  l = mults_at law t

  form_zero : (r : ℕ) → r < height qp.h → dot c (form qp law r) ≡ dot c []
  form_zero r h = dot_same c (form qp law r) [] (λ j k. form_entry qp law r j ∙ (met.stationary r h j (omega arith)).holds_so)

  gradient_entry : (r : ℕ) → r < height qp.h → coordinate (vec_add (vec_add (mat_vec qp.h.rows z) (mat_vec qp.f.rows c)) (vec_mat l g)) r ≡ dot c []
  gradient_entry r h = gradient_form qp law r t ∙ form_zero r h

  gradient_within : length (vec_add (vec_add (mat_vec qp.h.rows z) (mat_vec qp.f.rows c)) (vec_mat l g)) ≤ height qp.h
  gradient_within =
      let p = qp.is_program.f_shape in
      let q = qp.is_program.g_shape in
      length-add_within (height qp.h) (vec_add (mat_vec qp.h.rows z) (mat_vec qp.f.rows c)) (vec_mat l g)
      (length-add_within (height qp.h) (mat_vec qp.h.rows z) (mat_vec qp.f.rows c) (omega (arith, length-mat_vec qp.h.rows z)) (omega (arith, length-mat_vec qp.f.rows c, p.rows_are)))
      (combination_within (height qp.h) l g (rows_within qp.g (height qp.h) law.set q.rectangular q.columns_are))

  -- a member's row, as a form
  member_value : (k : ℕ) → k < length law.set → dot (row_of qp.g.rows (get_or law.set k 0)) z ≡ dot (row_of qp.w.rows (get_or law.set k 0)) c
  member_value k h =
      let i = get_or law.set k 0 in
      against (row_of qp.g.rows i) c law.moves.rows
      ∙ dot_same c (vec_mat (row_of qp.g.rows i) law.moves.rows) (row_of qp.w.rows i) (λ j m. coordinate-vec_mat (row_of qp.g.rows i) law.moves.rows j ∙ (met.active k h j (omega arith)).holds_so)
      ∙ dot_comm c (row_of qp.w.rows i)

  member_row : (m : List (List ℚ)) (x : List ℚ) (k : ℕ) → k < length law.set → coordinate (mat_vec (rows_of m law.set) x) k ≡ dot (row_of m (get_or law.set k 0)) x
  member_row m x k h = coordinate-mat_vec (rows_of m law.set) x k ∙ ap (λ row. dot row x) (get_or-map (row_of m) law.set k 0 [] h)

  rows_size : (m : List (List ℚ)) (x : List ℚ) → length (mat_vec (rows_of m law.set) x) ≡ length law.set
  rows_size m x = length-mat_vec (rows_of m law.set) x ∙ length-map law.set (row_of m)

  tight : IsTight qp law.set t z
  tight =
      same_entries (mat_vec (rows_of qp.g.rows law.set) z) (mat_vec (rows_of qp.w.rows law.set) c) (rows_size qp.g.rows z ∙ sym (rows_size qp.w.rows c))
      (λ k h. let inside : k < length law.set = omega (arith, rows_size qp.g.rows z) in member_row qp.g.rows z k inside ∙ member_value k inside ∙ sym (member_row qp.w.rows c k inside))

  meets_equations : MeetsEquations qp law.set t z l
  meets_equations = record {
    stationary = zero_by_entries (vec_add (vec_add (mat_vec qp.h.rows z) (mat_vec qp.f.rows c)) (vec_mat l g)) (λ r h. gradient_entry r (let b = gradient_within in omega arith) ∙ dot_nil c);
    tight = tight;
  }

pub law_by_coefficients : (qp : Qp) (law : Law) → HasLawShape qp law → LawMet qp law → IsLaw qp law
law_by_coefficients qp law shape met = record { shape = shape; equations = λ t size. meets_equations qp law shape met t size }
