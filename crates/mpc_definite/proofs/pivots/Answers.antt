use Rattle.std.proofs.Common.{◌+◌, arith, sym, subst}
use Rattle.std.proofs.lemmas.Int.{ints}
use Rattle.mpc_definite.proofs.Stages.{AtStep, at_start, at_next, decomposition, is_definite, small_of_sign, positive_of_sign, first_not_positive, disproved, first_wide}
use Rattle.mpc_definite.proofs.pivots.Goals as goal

pub loop-column-init : goal.loop-column-init
loop-column-init c = at_start c.args.matrix.now c.in_ok-lower.lower c.in_ok-diagonal.diagonal c.in_ok-diagonal.ensures.empty c.in_ok-lower.ensures

pub returns-then-sign-le0-clause-cause : goal.returns-then-sign-le0-clause-cause
returns-then-sign-le0-clause-cause c =
    first_not_positive c.args.matrix.now c.loop-column.lower c.loop-column.diagonal c.loop-column.column c.get-pivot.result (omega arith) c.loop-column.invariant c.get-pivot.ensures
    (small_of_sign c.get-pivot.result _ c.sign.ensures.positive (omega (arith, ints)))

pub returns-then-sign-le0-clause-not_definite : goal.returns-then-sign-le0-clause-not_definite
returns-then-sign-le0-clause-not_definite c =
    disproved c.args.matrix.now c.loop-column.lower c.loop-column.diagonal c.loop-column.column c.get-pivot.result c.requires.symmetric (omega arith) c.loop-column.invariant c.get-pivot.ensures
    (small_of_sign c.get-pivot.result _ c.sign.ensures.positive (omega (arith, ints)))

pub returns-in_default-clause-cause : goal.returns-in_default-clause-cause
returns-in_default-clause-cause c =
    first_wide c.args.matrix.now c.loop-column.lower c.loop-column.diagonal c.loop-column.column c.get-pivot.result (omega arith) c.loop-column.invariant c.get-pivot.ensures
    (positive_of_sign c.get-pivot.result _ c.sign.ensures.positive (omega (arith, ints))) c.in_default.ensures.wide

pub loop-column-preserved : goal.loop-column-preserved
loop-column-preserved c =
    subst (λ z. AtStep c.args.matrix.now z c.push.new.self (c.loop-column.column + 1)) (sym c.set.ensures)
    (at_next c.args.matrix.now c.loop-column.lower c.eliminate_column.new.lower c.loop-column.diagonal c.push.new.self c.loop-column.column c.get-pivot.result c.whole.result (omega arith) c.loop-column.invariant c.get-pivot.ensures
    (positive_of_sign c.get-pivot.result _ c.sign.ensures.positive (omega (arith, ints))) c.in-Ok.ensures.ok c.in-Ok.ensures.wide c.in_ok-push.ensures.ok c.whole.ensures)

pub returns-clause-decomposed : goal.returns-clause-decomposed
returns-clause-decomposed c = decomposition c.args.matrix.now c.loop-column.lower c.loop-column.diagonal c.loop-column.column (omega arith) c.requires.symmetric c.loop-column.invariant

pub returns-clause-definite : goal.returns-clause-definite
returns-clause-definite c = is_definite c.args.matrix.now c.loop-column.lower c.loop-column.diagonal c.loop-column.column (omega arith) c.requires.symmetric c.loop-column.invariant
