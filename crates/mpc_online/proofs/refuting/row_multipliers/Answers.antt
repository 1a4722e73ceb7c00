use Rattle.std.proofs.Common.{◌≡◌, ◌+◌, pos, ◌∙◌, subst, arith}
use Rattle.std.proofs.lemmas.List.FromFn.{length-map-range_with_len, get_or-map-range_with_len}
use Rattle.mpc_exact.specs.Rational.{int}
use Rattle.mpc_space.specs.Matrix.{height}
use Rattle.mpc_online.specs.Positions.{row_multiplier, row_multipliers}
use Rattle.mpc_online.specs.Answers.{position_of}
use Rattle.mpc_online.proofs.Filled.{IsFilled, filled_none, filled_more, filled_all}
use Rattle.mpc_online.proofs.refuting.row_multipliers.Goals as goal

pub loop-index-init : goal.loop-index-init
loop-index-init c = filled_none _ _ c.in_ok-out.ensures.items

pub loop-index-preserved : goal.loop-index-preserved
loop-index-preserved c = filled_more _ _ _ _ _ c.in_ok-push.ensures.items c.row_multiplier.ensures c.loop-index.invariant

pub returns : goal.returns
returns c =
    let last : c.loop-index.index ≡ height c.args.qp.now.g = omega (arith, c.loop-index-test.false, c.loop-index.auto.index-end, c.rows-index-end.ensures.value) in
    c.of.ensures
    ∙ filled_all c.loop-index.out.items (row_multipliers c.args.qp.now (position_of c.args.it.now) c.args.changes.now) (height c.args.qp.now.g) (λ i. row_multiplier (position_of c.args.it.now) c.args.changes.now (i + 1))
    (subst (λ n. IsFilled c.loop-index.out.items n (λ i. row_multiplier (position_of c.args.it.now) c.args.changes.now (i + 1))) last c.loop-index.invariant)
    (length-map-range_with_len (row_multiplier (position_of c.args.it.now) c.args.changes.now) 1 (height c.args.qp.now.g))
    (λ k h. get_or-map-range_with_len (row_multiplier (position_of c.args.it.now) c.args.changes.now) 1 (height c.args.qp.now.g) k (k + 1) (int (pos 0)) h (omega arith))
