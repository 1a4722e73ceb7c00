use Rattle.mpc_definite.proofs.Work.{LowerSome}
use Rattle.mpc_definite.proofs.lower_triangle.Given as goal

abbrev pub invariant-loop-row : goal.invariant-loop-row
invariant-loop-row l = LowerSome l.matrix l.lower l.row
