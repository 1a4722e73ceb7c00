use Rattle.std.proofs.Common.{◌≡◌, ◌+◌, ℕ, List, [], length, sym, ◌∙◌, ap, subst, arith}
use Rattle.mpc_exact.specs.Rational.{ℚ, neg_ℚ}
use Rattle.mpc_space.specs.Vector.{coordinate}
use Rattle.mpc_space.specs.Matrix.{RationalMatrix, height}
use Rattle.mpc_space.proofs.Matrix.{length-mat_vec}
use Rattle.mpc_sets.specs.RowSet.{IsSetOfRows}
use Rattle.mpc_linear.specs.Solution.{IsOnlySolution}
use Rattle.mpc_rows.specs.ActiveSets.{IsIndependentSet}
use Rattle.mpc_rows.specs.SetRuns.{law_matrix}
use Rattle.mpc_online.specs.Positions.{right_matrix, opening_side}
use Rattle.mpc_online.specs.Widths.{EliminationFits, ProductsFit}
use Rattle.mpc_online.specs.Openings.{PointFits}
use Rattle.mpc_online.proofs.Solved.{matrix_columns}
use Rattle.mpc_online.proofs.Corners.{no_rows_independent}
use Rattle.mpc_online.proofs.Advance.{height-right, upper_is, stop_for, err_memory, err_same}
use Rattle.mpc_online.proofs.opening.eliminated_point.Goals as goal
use Rattle.mpc_online.proofs.opening.eliminated_point.Goals.{In_ok-right}

right_is : (c : In_ok-right) → c.in_ok-right.right ≡ right_matrix c.args.qp.now [] (opening_side c.args.qp.now c.args.extended_counts.now)
right_is c = c.in_ok-right.ensures ∙ ap (λ (xs : List ℚ). right_matrix c.args.qp.now [] (λ i. neg_ℚ (coordinate xs i))) (c.deref.ensures.value ∙ c.in_ok-slopes.ensures.value)

pub products-requires-clause-size : goal.products-requires-clause-size
products-requires-clause-size c = c.requires.extended

pub products-requires-clause-few : goal.products-requires-clause-few
products-requires-clause-few c = let wide = c.args.qp.now.is_program.f_shape.columns_are in let few = c.args.qp.now.is_program.few_parameters in omega (arith, wide, few, c.requires.extended)

pub opening_right-requires : goal.opening_right-requires
opening_right-requires c =
    ap (λ (t : List ℚ). length t) (c.deref.ensures.value ∙ c.in_ok-slopes.ensures.value) ∙ length-mat_vec c.args.qp.now.f.rows c.args.extended_counts.now ∙ c.args.qp.now.is_program.f_shape.rows_are

pub solution-requires-clause-set_of_rows : goal.solution-requires-clause-set_of_rows
solution-requires-clause-set_of_rows c = subst (IsSetOfRows (height c.args.qp.now.g)) (sym c.empty.ensures) (record { rises = tt })

pub solution-requires-clause-independent : goal.solution-requires-clause-independent
solution-requires-clause-independent c = subst (IsIndependentSet c.args.qp.now) (sym c.empty.ensures) no_rows_independent

pub solution-requires-clause-rows : goal.solution-requires-clause-rows
solution-requires-clause-rows c =
    ap height (right_is (goal.at.solution-requires-clause-rows c).In_ok-right) ∙ height-right c.args.qp.now [] (opening_side c.args.qp.now c.args.extended_counts.now)
    ∙ ap (λ (s : List ℕ). height c.args.qp.now.h + length s) (sym c.empty.ensures)

pub part-requires-clause-rows : goal.part-requires-clause-rows
part-requires-clause-rows c =
    let h : height c.in_ok-solved.solved ≡ height c.args.qp.now.h + length c.empty.result = c.in_ok-solved.ensures.only.shape.rows_are ∙ matrix_columns c.args.qp.now c.empty.result in
    omega (arith, h, c.rows.ensures.value)

pub part-requires-clause-column : goal.part-requires-clause-column
part-requires-clause-column c =
    let h : c.in_ok-solved.solved.columns ≡ 1 = c.in_ok-solved.ensures.only.shape.columns_are ∙ ap (λ (m : RationalMatrix). m.columns) (right_is (goal.at.part-requires-clause-column c).In_ok-right) in
    omega (arith, h)

pub returns-in_err-slopes-clause-wide : goal.returns-in_err-slopes-clause-wide
returns-in_err-slopes-clause-wide c =
    err_same c.from_residual.result c.in_err-slopes.field-0.0 _ _ c.from_residual.ensures.1
    (stop_for c.in_err-slopes.field-0.0 (¬ ProductsFit c.args.qp.now.f c.args.extended_counts.now) (¬ PointFits c.args.qp.now c.args.extended_counts.now) (λ h f. h f.costs) c.in_err-slopes.ensures.wide)

pub returns-in_err-right-clause-wide : goal.returns-in_err-right-clause-wide
returns-in_err-right-clause-wide c = err_memory c.from_residual-in_err-right.result _ _ c.from_residual-in_err-right.ensures.1

pub returns-in_err-solved-clause-wide : goal.returns-in_err-solved-clause-wide
returns-in_err-solved-clause-wide c =
    err_same c.from_residual-in_err-solved.result c.in_err-solved.field-0.0 _ _ c.from_residual-in_err-solved.ensures.1
    (stop_for c.in_err-solved.field-0.0 (¬ EliminationFits (law_matrix c.args.qp.now c.empty.result) c.in_ok-right.right) (¬ PointFits c.args.qp.now c.args.extended_counts.now)
    (λ h f. h (subst (EliminationFits (law_matrix c.args.qp.now c.empty.result)) (sym (right_is (goal.at.returns-in_err-solved-clause-wide c).In_ok-right))
    (subst (λ (s : List ℕ). EliminationFits (law_matrix c.args.qp.now s) (right_matrix c.args.qp.now [] (opening_side c.args.qp.now c.args.extended_counts.now))) (sym c.empty.ensures) f.elimination)))
    c.in_err-solved.ensures.wide)

pub returns-in_err-point-clause-wide : goal.returns-in_err-point-clause-wide
returns-in_err-point-clause-wide c = err_memory c.from_residual-in_err-point.result _ _ c.from_residual-in_err-point.ensures.1

pub returns-clause-point : goal.returns-clause-point
returns-clause-point c =
    let is = right_is (goal.at.returns-clause-point c).In_ok-right in
    record {
      solution = c.in_ok-solved.solved;
      solves = subst (λ (m : RationalMatrix). IsOnlySolution (law_matrix c.args.qp.now []) m c.in_ok-solved.solved) is
          (subst (λ (s : List ℕ). IsOnlySolution (law_matrix c.args.qp.now s) c.in_ok-right.right c.in_ok-solved.solved) c.empty.ensures c.in_ok-solved.ensures.only);
      is = upper_is c.args.qp.now c.in_ok-solved.solved c.rows.result c.in_ok-point.point.items c.rows.ensures.value c.in_ok-point.ensures;
    }

pub returns-clause-wide : goal.returns-clause-wide
returns-clause-wide c =
    let is = right_is (goal.at.returns-clause-wide c).In_ok-right in
    record {
      costs = c.in_ok-slopes.ensures.wide;
      elimination = subst (EliminationFits (law_matrix c.args.qp.now [])) is (subst (λ (s : List ℕ). EliminationFits (law_matrix c.args.qp.now s) c.in_ok-right.right) c.empty.ensures c.in_ok-solved.ensures.wide);
    }
