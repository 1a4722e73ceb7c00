use Rattle.std.proofs.Common.{arith, length}
use Rattle.mpc_bordered.specs.Stages.{IsOpposite}
use Rattle.mpc_bordered.proofs.RowWriting.{rows_more, rows_all}
use Rattle.mpc_bordered.proofs.Combined.{opposite_stage}
use Rattle.mpc_bordered.proofs.stages.first_stage.Goals as goal

pub loop-row-preserved : goal.loop-row-preserved
loop-row-preserved c = rows_more (IsOpposite c.args.columns.now) c.loop-row.out c.write_opposite.new.out (length c.args.columns.now.rows) c.args.columns.now.columns c.loop-row.row c.write_opposite.ensures c.loop-row.invariant

pub returns : goal.returns
returns c t =
    opposite_stage t (length c.args.columns.now.rows) c.args.columns.now.columns c.args.columns.now c.loop-row.out
    (rows_all (IsOpposite c.args.columns.now) c.loop-row.out (length c.args.columns.now.rows) c.args.columns.now.columns c.loop-row.row (omega (arith, c.loop-row-test.false, c.rows-row-end.ensures.value)) c.loop-row.invariant)
