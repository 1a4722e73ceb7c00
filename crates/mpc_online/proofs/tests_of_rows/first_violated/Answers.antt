use Rattle.std.proofs.Common.{◌≡◌, ◌+◌, true, false, arith}
use Rattle.std.proofs.lemmas.Result.{MatchResult-from_err}
use Rattle.mpc_online.proofs.RowTests.{met_none, met_more, found_first, found_fits, met_all, all_fit, found_wide}
use Rattle.mpc_online.specs.Wholes.{entries_of}
use Rattle.mpc_online.specs.Evens.{sides_of}
use Rattle.mpc_online.proofs.tests_of_rows.first_violated.Goals as goal

different : {b : _} → b ≡ true → b ≡ false → ⊥
different e f = cc

pub loop-index-init : goal.loop-index-init
loop-index-init c = met_none c.args.qp.now (sides_of c.args.sides.now) (entries_of c.args.point.now)

pub loop-index-preserved : goal.loop-index-preserved
loop-index-preserved c =
    met_more c.args.qp.now (sides_of c.args.sides.now) (entries_of c.args.point.now) (c.loop-index.index + 1) (λ v. different (c.in_ok-above.ensures.value.1 v) c.if-above.false) c.in_ok-above.ensures.wide c.loop-index.invariant

pub returns-clause-value : goal.returns-clause-value
returns-clause-value c = met_all c.args.qp.now (sides_of c.args.sides.now) (entries_of c.args.point.now) (c.loop-index.index + 1) (omega (arith, c.loop-index-test.false, c.rows-index-end.ensures.value)) c.loop-index.invariant

pub returns-clause-wide : goal.returns-clause-wide
returns-clause-wide c = all_fit c.args.qp.now (sides_of c.args.sides.now) (entries_of c.args.point.now) (c.loop-index.index + 1) (omega (arith, c.loop-index-test.false, c.rows-index-end.ensures.value)) c.loop-index.invariant

pub returns-then-above-clause-value : goal.returns-then-above-clause-value
returns-then-above-clause-value c =
    found_first c.args.qp.now (sides_of c.args.sides.now) (entries_of c.args.point.now) (c.loop-index.index + 1) (c.in_ok-above.ensures.value.0 c.if-above.true)
    (omega arith) (omega (arith, c.loop-index-test.true, c.rows-index-end.ensures.value)) c.loop-index.invariant

pub returns-then-above-clause-wide : goal.returns-then-above-clause-wide
returns-then-above-clause-wide c =
    found_fits c.args.qp.now (sides_of c.args.sides.now) (entries_of c.args.point.now) (c.loop-index.index + 1) (c.in_ok-above.ensures.value.0 c.if-above.true)
    (omega arith) c.in_ok-above.ensures.wide c.loop-index.invariant

pub returns-in_err-above-clause-wide : goal.returns-in_err-above-clause-wide
returns-in_err-above-clause-wide c =
    MatchResult-from_err c.from_residual.result _ _ c.from_residual.ensures.0
    (λ _. found_wide c.args.qp.now (sides_of c.args.sides.now) (entries_of c.args.point.now) (c.loop-index.index + 1) (omega arith) (omega (arith, c.loop-index-test.true, c.rows-index-end.ensures.value)) c.in_err-above.ensures.wide c.loop-index.invariant)
