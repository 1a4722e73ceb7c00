use Rattle.std.proofs.Common.{◌<◌, [], length, subst, arith, List, slice_index_or}
use Rattle.mpc_exact.specs.Rational.{ℚ}
use Rattle.mpc_space.specs.Matrix.{height, entry}
use Rattle.mpc_space.specs.Vector.{coordinate}
use Rattle.mpc_sweep.specs.Reading.{AreBehind}
use Rattle.mpc_sweep.proofs.FirstTable.{row_read}
use Rattle.mpc_sweep.proofs.reading.numbers_of.Goals as goal

pub loop-at_row-preserved : goal.loop-at_row-preserved
loop-at_row-preserved c =
    let m = c.args.table.now in
    let i = c.loop-at_row.at_row in
    let old = c.loop-at_row.numbers.items in
    let new = c.put_row.new.numbers.items in
    let behind : AreBehind old new (entry m i) (length (slice_index_or m.rows i [])) c.args.scale =
    subst (λ (r : List ℚ). AreBehind old new (coordinate r) (length r) c.args.scale) c.row.ensures (c.in_ok-put_row.ensures c.if-not-branch.false)
    in
    let inside : i < height m = omega (arith, c.rows-at_row-end.ensures.value, c.loop-at_row-test.true) in
    row_read m i c.args.scale old new c.loop-at_row.invariant (subst (λ n. AreBehind old new (entry m i) n c.args.scale) (c.rows.ensures.rectangular i [] inside) behind)
