use Rattle.mpc_definite.proofs.Stages.{AtStep}
use Rattle.mpc_definite.proofs.pivots.Given as goal

abbrev pub invariant-loop-column : goal.invariant-loop-column
invariant-loop-column l = AtStep l.matrix l.lower l.diagonal l.column
