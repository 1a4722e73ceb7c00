use Rattle.std.proofs.Common.{◌≡◌, subst, arith}
use Rattle.std.specs.List.{range_with_len}
use Rattle.mpc_space.specs.Matrix.{height}
use Rattle.mpc_sweep.specs.Numbers.{IsSwept}
use Rattle.mpc_region.specs.Shared.{shared_entry}
use Rattle.mpc_region.specs.Sweeps.{rights, all_columns}
use Rattle.mpc_region.proofs.SweptTables.{first_swept, first_below}
use Rattle.mpc_region.proofs.sweeps.swept_at_unknowns.Goals as goal

pub loop-pivot-preserved : goal.loop-pivot-preserved
loop-pivot-preserved c =
    first_swept c.args.qp.now c.loop-pivot.pivot c.sweep_into.new.out
    (c.in_ok-sweep_into.ensures c.if-not-branch.false (shared_entry c.args.qp.now) (range_with_len 0 c.loop-pivot.pivot) (rights c.args.qp.now) (all_columns c.args.qp.now) c.loop-pivot.pivot c.loop-pivot.invariant (omega arith) (omega arith) (first_below c.args.qp.now c.loop-pivot.pivot))

pub returns : goal.returns
returns c =
    let end : c.loop-pivot.pivot ≡ height c.args.qp.now.h = omega (arith, c.rows-pivot-end.ensures.value) in
    subst (λ p. IsSwept (shared_entry c.args.qp.now) (range_with_len 0 p) (rights c.args.qp.now) (all_columns c.args.qp.now) p c.loop-pivot.table) end c.loop-pivot.invariant
