use Rattle.std.proofs.Common.{◌+◌, arith}
use Rattle.mpc_space.specs.Matrix.{entry}
use Rattle.mpc_bordered.specs.Parts.{part, IsPicked}
use Rattle.mpc_bordered.proofs.RowWriting.{filling_more}
use Rattle.mpc_bordered.proofs.parts.write_picked.Goals as goal

pub loop-column-preserved : goal.loop-column-preserved
loop-column-preserved c =
    filling_more (λ j. IsPicked (part (entry c.args.kept.now.table) c.args.kept.now.front c.args.rows.now c.args.rights.now) c.args.kept.now.front c.args.row (c.args.first + j)) c.args.out.now c.loop-column.out c.set.new.self c.args.row c.loop-column.column c.in-Some.number
    c.set.ensures c.requires.row_within (omega (arith, c.loop-column-test.true, c.cols-column-end.ensures.value)) c.in-Some.ensures c.loop-column.invariant
