use Rattle.std.proofs.Common.{sym, ◌≡◌, ◌∙◌, ◌+◌, ◌-◌, arith, ap, None}
use Rattle.mpc_exact.specs.Pair.{is_below}
use Rattle.mpc_rows.specs.Run.{Position, may_leave, bound, value}
use Rattle.mpc_whole.specs.Whole.{HasBasis}
use Rattle.mpc_runs.proofs.Table.{least_none, least_some, least_skip, leave_not_basic}
use Rattle.mpc_whole.proofs.WholeTurns.{none_below, none_up_to, leaves_as}
use Rattle.mpc_whole.proofs.whole_turn.first_out.Goals as goal
use Rattle.mpc_whole.proofs.whole_turn.first_out.Goals.{After-is_out}

pub loop-variable-init : goal.loop-variable-init
loop-variable-init c = λ p some h v w t. none_below (may_leave c.args.system.now p) c.args.place.first t

pub loop-variable-preserved-then-not-is_basic : goal.loop-variable-preserved-then-not-is_basic
loop-variable-preserved-then-not-is_basic c = λ p some h v w t.
    least_skip (may_leave c.args.system.now p) c.loop-variable.variable None (c.loop-variable.invariant p some h v w t)
    (leave_not_basic c.args.system.now p c.loop-variable.variable (h.basic c.loop-variable.variable c.loop-variable-test.true ∙ sym c.is_basic.ensures ∙ c.if-not-is_basic.true))

test_is : (c : After-is_out) (p : Position) → HasBasis c.args.frame.now.count c.args.seats.now p → c.is_out.result ≡ is_below (bound c.args.system.now (c.args.system.now.width + (c.loop-variable.variable - c.unknowns-width.result))) (value c.args.system.now p (c.args.system.now.width + (c.loop-variable.variable - c.unknowns-width.result))) → c.is_out.result ≡ may_leave c.args.system.now p c.loop-variable.variable
test_is c p h e =
    e ∙ ap (λ w. is_below (bound c.args.system.now (c.args.system.now.width + (c.loop-variable.variable - w))) (value c.args.system.now p (c.args.system.now.width + (c.loop-variable.variable - w)))) c.unknowns-width.ensures
    ∙ leaves_as c.args.system.now p c.loop-variable.variable (let a = c.loop-variable.auto.variable in let b = c.requires.side in omega arith) (h.basic c.loop-variable.variable c.loop-variable-test.true ∙ sym c.is_basic.ensures ∙ c.if-not-is_basic.false)

pub returns-then-is_out : goal.returns-then-is_out
returns-then-is_out c = λ p some h v w t.
    let at = goal.at.returns-then-is_out c in
    sym (least_some (may_leave c.args.system.now p) c.args.frame.now.count c.loop-variable.variable c.is_out.result c.loop-variable-test.true (c.loop-variable.invariant p some h v w t) (test_is at.After-is_out p h (c.is_out.ensures p some v w)) c.if-is_out.true)

pub loop-variable-preserved : goal.loop-variable-preserved
loop-variable-preserved c = λ p some h v w t.
    let at = goal.at.loop-variable-preserved c in
    least_none (may_leave c.args.system.now p) c.loop-variable.variable c.is_out.result (c.loop-variable.invariant p some h v w t) (test_is at.After-is_out p h (c.is_out.ensures p some v w)) c.if-is_out.false

pub returns : goal.returns
returns c = λ p some h v w t. sym (none_up_to (may_leave c.args.system.now p) c.args.frame.now.count c.loop-variable.variable (let b = c.loop-variable-test.false in omega arith) (c.loop-variable.invariant p some h v w t))

pub is_out-requires-clause-numbers : goal.is_out-requires-clause-numbers
is_out-requires-clause-numbers c = c.requires.numbers

pub is_out-requires-clause-parts : goal.is_out-requires-clause-parts
is_out-requires-clause-parts c = c.requires.parts

pub is_out-requires-clause-short : goal.is_out-requires-clause-short
is_out-requires-clause-short c = c.requires.short

pub is_out-requires-clause-four : goal.is_out-requires-clause-four
is_out-requires-clause-four c = c.requires.four

pub is_out-requires-clause-den_small : goal.is_out-requires-clause-den_small
is_out-requires-clause-den_small c = c.requires.den_small
