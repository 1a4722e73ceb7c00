-- The law of an independent set of rows, and that at a point where the set's equations hold it gives the same unknowns and multipliers.
use Rattle.std.proofs.Common.{◌≡◌, ℕ, zero, suc, ◌+◌, ◌-◌, ◌≤◌, List, [], ◌∷◌, length, get_or, refl, sym, ◌∙◌, ap, subst, arith}
use Rattle.std.specs.List.{AllByRecursion}
use Rattle.std.proofs.lemmas.List.{length-map}
use Rattle.std.proofs.lemmas.List.Elements.{recursion_from_All}
use Rattle.mpc_exact.specs.Rational.{ℚ}
use Rattle.mpc_space.specs.Vector.{column, mat_vec}
use Rattle.mpc_space.specs.Matrix.{RationalMatrix, height}
use Rattle.mpc_space.specs.Definite.{IsDefinite}
use Rattle.mpc_space.proofs.Matrix.{length-column, height-tabled, rectangular-tabled, length-mat_vec}
use Rattle.mpc_sets.specs.RowSet.{IsSetOfRows}
use Rattle.mpc_linear.specs.Shape.{HasShape}
use Rattle.mpc_rows.specs.ActiveSets.{extended, row_of, rows_of, IsIndependentSet, MeetsEquations}
use Rattle.mpc_rows.specs.Laws.{moves_at, mults_at, IsLaw}
use Rattle.mpc_rows.specs.declared.programs.Qp.{Qp}
use Rattle.mpc_rows.specs.declared.laws.Law.{Law}
use Rattle.mpc_cover.proofs.Systems.{IsForm, Solution, solve, matrix_form}
use Rattle.mpc_cover.proofs.Segments.{lengths_of}
use Rattle.mpc_cover.proofs.Dimension.{at_most_dimension}
use Rattle.mpc_cover.proofs.Columns.{of_columns, columns_stationary, columns_tight, same_point, same_factors}

-- ---- the lengths of a program's rows
lengths_within : (n : ℕ) (rows : List (List ℚ)) → AllByRecursion (λ row. length row ≡ n) rows → AllByRecursion (λ row. length row ≤ n) rows
lengths_within n [] h = tt
lengths_within n (row ∷ rows) h = (omega (arith, h.0), lengths_within n rows h.1)

length-get : (n : ℕ) (rows : List (List ℚ)) (i : ℕ) → AllByRecursion (λ row. length row ≡ n) rows → length (get_or rows i []) ≤ n
length-get n [] i h = omega arith
length-get n (row ∷ rows) zero h = omega (arith, h.0)
length-get n (row ∷ rows) (suc i) h = length-get n rows i h.1

lengths : {m : RationalMatrix} {rows columns : ℕ} → HasShape m rows columns → AllByRecursion (λ row. length row ≡ columns) m.rows
lengths {m} {rows} {columns} s = subst (λ c. AllByRecursion (λ row. length row ≡ c) m.rows) s.columns_are (recursion_from_All (λ row. length row ≡ m.columns) m.rows s.rectangular)

module _ (qp : Qp) where
  pub length-row : (i : ℕ) → length (row_of qp.g.rows i) ≤ height qp.h
  length-row i = length-get (height qp.h) qp.g.rows (i - 1) (lengths qp.is_program.g_shape)

  pub lengths_among : (s : List ℕ) → AllByRecursion (λ row. length row ≤ height qp.h) (rows_of qp.g.rows s)
  lengths_among s = lengths_of (height qp.h) (row_of qp.g.rows) length-row s

  pub cost_form : IsDefinite qp.h.rows → IsForm (height qp.h) (mat_vec qp.h.rows)
  cost_form d = matrix_form qp.h.rows (lengths_within (height qp.h) qp.h.rows (lengths qp.is_program.h_shape)) d

  pub height-f : length qp.f.rows ≡ height qp.h
  height-f = qp.is_program.f_shape.rows_are

  -- an independent set has no more members than there are unknowns
  pub few_members : (s : List ℕ) → IsIndependentSet qp s → length s ≤ height qp.h
  few_members s i = let l = at_most_dimension (height qp.h) (rows_of qp.g.rows s) (lengths_among s) i in omega (arith, l, length-map s (row_of qp.g.rows))

  module _ (d : IsDefinite qp.h.rows) (s : List ℕ) (i : IsIndependentSet qp s) where
    solution_for : (j : ℕ) → Solution (height qp.h) (mat_vec qp.h.rows) (rows_of qp.g.rows s) (column qp.f.rows j) (column (rows_of qp.w.rows s) j)
    solution_for j =
        solve (height qp.h) (mat_vec qp.h.rows) (cost_form d) (rows_of qp.g.rows s) (lengths_among s) i (column qp.f.rows j) (column (rows_of qp.w.rows s) j)
        (omega (arith, length-column qp.f.rows j, height-f))
        (length-column (rows_of qp.w.rows s) j ∙ length-map s (row_of qp.w.rows) ∙ sym (length-map s (row_of qp.g.rows)))

    pub law_of : Law
    law_of = record {
      set = s;
      moves = of_columns (height qp.h) (length qp.counts + 1) (λ j. (solution_for j).z);
      mults = of_columns (length (rows_of qp.g.rows s)) (length qp.counts + 1) (λ j. (solution_for j).l);
    }

    pub set-law_of : law_of.set ≡ s
    unfolding law_of
    set-law_of = refl

    pub is_law_of : IsSetOfRows (height qp.g) s → IsLaw qp law_of
    unfolding law_of
    is_law_of r = record {
      shape = record {
        set_of_rows = r;
        few = few_members s i;
        moves_shape = record { rows_are = height-tabled _ _ _; columns_are = refl; rectangular = rectangular-tabled _ _ _ };
        mults_shape = record { rows_are = height-tabled _ _ _ ∙ length-map s (row_of qp.g.rows); columns_are = refl; rectangular = rectangular-tabled _ _ _ };
      };
      equations = λ t e.
          let within : length (extended t) ≤ length qp.counts + 1 = omega (arith, e) in
          record {
            stationary = columns_stationary (height qp.h) (length qp.counts + 1) qp.h.rows qp.f.rows (rows_of qp.g.rows s) (rows_of qp.w.rows s) solution_for (extended t) within;
            tight = columns_tight (height qp.h) (length qp.counts + 1) qp.h.rows qp.f.rows (rows_of qp.g.rows s) (rows_of qp.w.rows s) solution_for (extended t) within
                (length-map s (row_of qp.w.rows) ∙ sym (length-map s (row_of qp.g.rows)));
          };
    }

-- where z and l meet the equations of an independent set at t, its law gives them
module _ (qp : Qp) (d : IsDefinite qp.h.rows) (law : Law) (is_law : IsLaw qp law) (t z l : List ℚ) (t_size : length t ≡ length qp.counts) (z_size : length z ≡ height qp.h) (e : MeetsEquations qp law.set t z l) where
  moves_size : length (moves_at law t) ≡ height qp.h
  moves_size = length-mat_vec law.moves.rows (extended t) ∙ is_law.shape.moves_shape.rows_are

  pub law_moves : moves_at law t ≡ z
  law_moves =
      let f = is_law.equations t t_size in
      same_point qp.h.rows (rows_of qp.g.rows law.set) (mat_vec qp.f.rows (extended t)) (mat_vec (rows_of qp.w.rows law.set) (extended t)) (moves_at law t) z (mults_at law t) l
      f.stationary e.stationary f.tight e.tight d moves_size z_size

  pub law_mults : IsIndependentSet qp law.set → length l ≡ length law.set → mults_at law t ≡ l
  law_mults i l_size =
      let f = is_law.equations t t_size in
      same_factors qp.h.rows (rows_of qp.g.rows law.set) (mat_vec qp.f.rows (extended t)) (mat_vec (rows_of qp.w.rows law.set) (extended t)) (moves_at law t) z (mults_at law t) l
      f.stationary e.stationary f.tight e.tight d moves_size z_size i
      (length-mat_vec law.mults.rows (extended t) ∙ is_law.shape.mults_shape.rows_are ∙ sym (length-map law.set (row_of qp.g.rows)))
      (l_size ∙ sym (length-map law.set (row_of qp.g.rows)))

-- so two laws of one set agree at every point
pub same_moves : (qp : Qp) (law other : Law) → IsDefinite qp.h.rows → IsLaw qp law → IsLaw qp other → law.set ≡ other.set → (t : List ℚ) → length t ≡ length qp.counts → moves_at law t ≡ moves_at other t
same_moves qp law other d is_law is_other same t size =
    law_moves qp d law is_law t (moves_at other t) (mults_at other t) size (length-mat_vec other.moves.rows (extended t) ∙ is_other.shape.moves_shape.rows_are)
    (subst (λ s. MeetsEquations qp s t (moves_at other t) (mults_at other t)) (sym same) (is_other.equations t size))

pub same_mults : (qp : Qp) (law other : Law) → IsDefinite qp.h.rows → IsLaw qp law → IsLaw qp other → law.set ≡ other.set → IsIndependentSet qp law.set → (t : List ℚ) → length t ≡ length qp.counts → mults_at law t ≡ mults_at other t
same_mults qp law other d is_law is_other same i t size =
    law_mults qp d law is_law t (moves_at other t) (mults_at other t) size (length-mat_vec other.moves.rows (extended t) ∙ is_other.shape.moves_shape.rows_are)
    (subst (λ s. MeetsEquations qp s t (moves_at other t) (mults_at other t)) (sym same) (is_other.equations t size)) i
    (length-mat_vec other.mults.rows (extended t) ∙ is_other.shape.mults_shape.rows_are ∙ ap length (sym same))
