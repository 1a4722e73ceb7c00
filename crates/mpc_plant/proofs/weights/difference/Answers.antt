use Rattle.std.proofs.Common.{◌∙◌}
use Rattle.mpc_plant.proofs.MatrixLemmas.{rows_turn}
use Rattle.mpc_plant.proofs.weights.difference.Goals as goal

pub loop-row-preserved : goal.loop-row-preserved
loop-row-preserved c = c.loop-row.invariant ∙ rows_turn c.args.matrix.now.rows c.args.size c.loop-row.row c.loop-row-test.true (cc)
