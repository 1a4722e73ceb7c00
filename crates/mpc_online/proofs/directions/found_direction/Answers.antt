use Rattle.std.proofs.Common.{◌≡◌, ◌+◌, IfSome, List, length, ◌∙◌, ap, subst, arith}
use Rattle.mpc_exact.specs.Rational.{ℚ}
use Rattle.mpc_space.specs.Matrix.{height}
use Rattle.mpc_space.proofs.Entries.{length-listed}
use Rattle.mpc_online.specs.Shared.{IsSlopeOf}
use Rattle.mpc_wholes.specs.Wholes.{IsOver}
use Rattle.mpc_online.proofs.Solved.{matrix_columns}
use Rattle.mpc_online.proofs.Advance.{upper_is, lower_is}
use Rattle.mpc_online.proofs.directions.found_direction.Goals as goal

pub part-requires-clause-rows : goal.part-requires-clause-rows
part-requires-clause-rows c =
    let h : height c.in-Ok.solved ≡ height c.args.qp.now.h + length c.args.set = c.in-Ok.ensures.only.shape.rows_are ∙ matrix_columns c.args.qp.now c.args.set in
    omega (arith, h, c.rows.ensures.value)

pub part-requires-2-clause-rows : goal.part-requires-2-clause-rows
part-requires-2-clause-rows c =
    let h : height c.in-Ok.solved ≡ height c.args.qp.now.h + length c.args.set = c.in-Ok.ensures.only.shape.rows_are ∙ matrix_columns c.args.qp.now c.args.set in
    omega (arith, h, c.rows-2.ensures.value, c.size.ensures.value)

pub over_one_denominator-whole-requires : goal.over_one_denominator-whole-requires
over_one_denominator-whole-requires c =
    let l : length c.deref.result.now ≡ height c.args.qp.now.h = ap (λ (d : List ℚ). length d) (c.deref.ensures.value ∙ c.in_ok-point.ensures) ∙ length-listed _ _ ∙ c.rows.ensures.value in
    let few = c.args.qp.now.is_program.few_unknowns in
    omega (arith, l, few)

pub slope_of-slope-requires-clause-point : goal.slope_of-slope-requires-clause-point
slope_of-slope-requires-clause-point c = ap (λ (d : List ℚ). length d) (c.deref-2.ensures.value ∙ c.in_ok-point.ensures) ∙ length-listed _ _ ∙ c.rows.ensures.value

pub returns-clause-direction : goal.returns-clause-direction
returns-clause-direction c = record {
  solution = c.in-Ok.solved;
  solves = c.in-Ok.ensures.only;
  fits = c.in-Ok.ensures.wide;
  point_is = upper_is c.args.qp.now c.in-Ok.solved c.rows.result c.in_ok-point.point.items c.rows.ensures.value c.in_ok-point.ensures;
  whole_is = subst (λ (d : List ℚ). IfSome c.over_one_denominator-whole.result (IsOver d)) c.deref.ensures.value c.over_one_denominator-whole.ensures;
  multipliers_are = lower_is c.args.qp.now c.args.set c.in-Ok.solved c.rows-2.result c.size.result c.in_ok-multipliers.multipliers.items c.rows-2.ensures.value c.size.ensures.value c.in_ok-multipliers.ensures;
  slope_is = subst (λ (d : List ℚ). IsSlopeOf c.args.qp.now c.args.row d c.slope_of-slope.result) c.deref-2.ensures.value c.slope_of-slope.ensures;
}
