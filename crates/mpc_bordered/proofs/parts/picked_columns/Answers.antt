use Rattle.std.proofs.Common.{◌+◌, length, refl}
use Rattle.mpc_space.specs.Matrix.{entry}
use Rattle.mpc_bordered.specs.Parts.{part, IsPicked}
use Rattle.mpc_bordered.proofs.RowWriting.{rows_more}
use Rattle.mpc_bordered.proofs.parts.picked_columns.Goals as goal

pub loop-row-preserved : goal.loop-row-preserved
loop-row-preserved c =
    rows_more (λ i j. IsPicked (part (entry c.args.kept.now.table) c.args.kept.now.front c.args.rows.now c.args.rights.now) c.args.kept.now.front i (c.args.first + j)) c.loop-row.out c.write_picked.new.out (c.args.kept.now.front + length c.args.rows.now) c.args.count c.loop-row.row
    (c.if-not-write_picked.ensures refl) c.loop-row.invariant
