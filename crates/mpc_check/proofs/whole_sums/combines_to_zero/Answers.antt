use Rattle.std.proofs.Common.{◌≡◌, ◌↔◌, IsTrue, ℤ, pos, subst, arith}
use Rattle.mpc_systems.specs.Systems.{hold_system}
use Rattle.mpc_check.specs.Picks.{picked_rows, picked_system, weights}
use Rattle.mpc_controller.specs.Ways.{way_rows}
use Rattle.mpc_check.proofs.ColumnSums.{columns_more, all_zero, all_fit}
use Rattle.mpc_check.proofs.WholeSums.{read_sum}
use Rattle.mpc_check.proofs.whole_sums.combines_to_zero.Goals as goal

pub loop-unknown-preserved : goal.loop-unknown-preserved
loop-unknown-preserved c =
    let s = hold_system c.args.qp.now (way_rows c.args.tree.now c.args.way.now) c.args.row.now in
    columns_more (picked_rows s.rows c.args.cert.now) (weights c.args.cert.now) c.loop-unknown.unknown c.loop-unknown.zero c.stays_zero-zero.result c.args.numerators.all c.in_ok-sum.sum c.requires.denom.some c.loop-unknown.invariant c.in_ok-sum.ensures.fits c.in_ok-sum.ensures.value
    (subst (λ (z : ℤ). IsTrue c.stays_zero-zero.result ↔ (IsTrue c.loop-unknown.zero × (z ≡ pos 0))) (read_sum c.in_ok-sum.sum c.in_ok-sum.ensures.size) c.stays_zero-zero.ensures)

pub returns-clause-value : goal.returns-clause-value
unfolding hold_system
returns-clause-value c =
    all_zero (picked_system (hold_system c.args.qp.now (way_rows c.args.tree.now c.args.way.now) c.args.row.now) c.args.cert.now) (weights c.args.cert.now) c.loop-unknown.unknown c.loop-unknown.zero (omega (arith, c.len-unknown-end.ensures, c.loop-unknown-test.false)) c.loop-unknown.invariant (omega (arith, c.len-unknown-end.ensures, c.loop-unknown.auto.unknown-end))

pub returns-clause-fits : goal.returns-clause-fits
unfolding hold_system
returns-clause-fits c =
    all_fit (picked_system (hold_system c.args.qp.now (way_rows c.args.tree.now c.args.way.now) c.args.row.now) c.args.cert.now) (weights c.args.cert.now) c.loop-unknown.unknown c.loop-unknown.zero (omega (arith, c.len-unknown-end.ensures, c.loop-unknown-test.false)) c.loop-unknown.invariant
