use Rattle.std.proofs.Common.{List, [], length, refl, ◌∙◌, ap, arith}
use Rattle.mpc_exact.specs.Rational.{ℚ}
use Rattle.mpc_space.specs.Matrix.{height}
use Rattle.mpc_space.proofs.Entries.{length-listed}
use Rattle.mpc_online.specs.Positions.{right_matrix, opening_side, opened, continued}
use Rattle.mpc_online.specs.Widths.{FirstFits}
use Rattle.mpc_online.specs.Openings.{PointFits}
use Rattle.mpc_online.specs.Wholes.{entries_of}
use Rattle.mpc_online.specs.Answers.{step_of}
use Rattle.mpc_online.proofs.Moved.{same_position}
use Rattle.mpc_online.proofs.Advance.{wide_tests, first_fits, opening_is, stop_for, err_wide, err_memory, err_same}
use Rattle.mpc_online.specs.Evens.{sides_of}
use Rattle.mpc_online.proofs.run.open.Goals as goal

pub continued-requires : goal.continued-requires
continued-requires c =
    let l = ap (λ (t : List ℚ). length t) (c.in_ok-point.ensures.point.is) ∙ length-listed (height c.args.qp.now.h) _ in
    let few = c.args.qp.now.is_program.few_unknowns in
    omega (arith, l, few)

pub first_violated-requires-clause-point : goal.first_violated-requires-clause-point
first_violated-requires-clause-point c = ap (λ (t : List ℚ). length t) (c.in_ok-point.ensures.point.is) ∙ length-listed (height c.args.qp.now.h) _

pub returns-in_err-point-clause-wide : goal.returns-in_err-point-clause-wide
returns-in_err-point-clause-wide c =
    err_same c.from_residual.result c.in_err-point.field-0.0 _ _ c.from_residual.ensures.1
    (stop_for c.in_err-point.field-0.0 (¬ PointFits c.args.qp.now c.args.extended_counts.now) (¬ FirstFits c.args.qp.now (sides_of c.args.sides.now) c.args.extended_counts.now)
    (λ h f. h (record { costs = f.costs; elimination = f.elimination })) c.in_err-point.ensures.wide)

pub returns-in_err-first-clause-wide : goal.returns-in_err-first-clause-wide
returns-in_err-first-clause-wide c =
    let at = c.in_ok-point.ensures.point in
    err_wide c.from_residual-in_err-first.result _ _ c.from_residual-in_err-first.ensures.1
    (wide_tests c.args.qp.now (sides_of c.args.sides.now) c.args.extended_counts.now (right_matrix c.args.qp.now [] (opening_side c.args.qp.now c.args.extended_counts.now)) refl at.solution at.solves (entries_of c.in_ok-point.point) at.is c.in_err-first.ensures.wide)

pub returns-in_err-continued-clause-wide : goal.returns-in_err-continued-clause-wide
returns-in_err-continued-clause-wide c = err_memory c.from_residual-in_err-continued.result _ _ c.from_residual-in_err-continued.ensures.1

pub returns-clause-opens : goal.returns-clause-opens
returns-clause-opens c =
    let at = c.in_ok-point.ensures.point in
    opening_is c.args.qp.now (sides_of c.args.sides.now) c.args.extended_counts.now (right_matrix c.args.qp.now [] (opening_side c.args.qp.now c.args.extended_counts.now)) refl at.solution at.solves (entries_of c.in_ok-point.point) at.is
    c.in_ok-first.first c.in_ok-first.ensures.value (step_of c.in_ok-continued.field-0)
    (c.in_ok-continued.ensures ∙ ap (λ q. continued q c.in_ok-first.first)
    (same_position _ (opened (entries_of c.in_ok-point.point)) refl c.empty.ensures c.new.ensures.items refl c.whole.ensures))

pub returns-clause-wide : goal.returns-clause-wide
returns-clause-wide c =
    let at = c.in_ok-point.ensures.point in
    let fit = c.in_ok-point.ensures.wide in
    first_fits c.args.qp.now (sides_of c.args.sides.now) c.args.extended_counts.now (right_matrix c.args.qp.now [] (opening_side c.args.qp.now c.args.extended_counts.now)) refl at.solution at.solves (entries_of c.in_ok-point.point) at.is
    fit.costs fit.elimination c.in_ok-first.ensures.wide
