use Rattle.std.proofs.Common.{arith}
use Rattle.mpc_space.specs.Matrix.{entry}
use Rattle.mpc_bordered.specs.Stages.{IsNextNumber}
use Rattle.mpc_bordered.proofs.RowWriting.{filling_more, filling_all}
use Rattle.mpc_bordered.proofs.stages.write_next.Goals as goal

pub loop-column-preserved : goal.loop-column-preserved
loop-column-preserved c =
    filling_more (IsNextNumber (entry c.args.kept.now.table) c.args.kept.now.front c.args.stage.now c.args.pivot_column c.args.row) c.args.out.now c.loop-column.out c.set.new.self c.args.row c.loop-column.column c.in-Some.number
    c.set.ensures (omega (arith, c.requires.height, c.requires.row)) (omega (arith, c.loop-column-test.true, c.cols-column-end.ensures.value)) c.in-Some.ensures c.loop-column.invariant

pub returns : goal.returns
returns c t =
    filling_all (IsNextNumber (entry c.args.kept.now.table) c.args.kept.now.front c.args.stage.now c.args.pivot_column c.args.row) c.args.out.now c.loop-column.out c.args.row c.loop-column.column
    (omega (arith, c.loop-column-test.false, c.cols-column-end.ensures.value)) c.loop-column.invariant
