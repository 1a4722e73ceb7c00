use Rattle.std.proofs.Common.{arith}
use Rattle.mpc_condense.proofs.Advance.{starts_more, starts_all}
use Rattle.mpc_condense.proofs.motions.start.Goals as goal

pub loop-column-preserved : goal.loop-column-preserved
loop-column-preserved c = starts_more c.args.plant.now c.loop-column.from_counts c.set.new.self c.set-in-loop-column.new.self c.loop-column.column c.at-axis.result.now (omega arith) c.at-axis.ensures c.set.ensures c.set-in-loop-column.ensures c.loop-column.invariant

pub returns : goal.returns
returns c = starts_all c.args.plant.now c.loop-column.from_counts c.in_ok-from_moves.from_moves c.loop-column.column (omega arith) c.in_ok-from_moves.ensures c.loop-column.invariant
