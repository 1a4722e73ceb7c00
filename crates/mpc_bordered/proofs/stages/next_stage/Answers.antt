use Rattle.std.proofs.Common.{refl, arith}
use Rattle.mpc_space.specs.Matrix.{entry}
use Rattle.mpc_bordered.specs.Stages.{IsNextNumber}
use Rattle.mpc_bordered.proofs.RowWriting.{rows_more, rows_all}
use Rattle.mpc_bordered.proofs.stages.next_stage.Goals as goal

pub loop-row-preserved : goal.loop-row-preserved
loop-row-preserved c =
    rows_more (λ i j. IsNextNumber (entry c.args.kept.now.table) c.args.kept.now.front c.args.stage.now c.args.pivot_column i j) c.loop-row.out c.write_next.new.out c.args.kept.now.front c.args.stage.now.columns c.loop-row.row
    (c.if-not-write_next.ensures refl) c.loop-row.invariant

pub returns-clause-stage : goal.returns-clause-stage
returns-clause-stage c f h =
    let filled =
    rows_all (λ i j. IsNextNumber (entry c.args.kept.now.table) c.args.kept.now.front c.args.stage.now c.args.pivot_column i j) c.loop-row.out c.args.kept.now.front c.args.stage.now.columns c.loop-row.row
    (omega (arith, c.loop-row-test.false)) c.loop-row.invariant in
    record { shape = filled.shape; entries = λ i j hi hj. filled.entries i j hi hj f h }
