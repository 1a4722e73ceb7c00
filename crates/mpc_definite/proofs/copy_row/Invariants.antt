use Rattle.mpc_definite.proofs.Work.{CopiesSome}
use Rattle.mpc_definite.proofs.copy_row.Given as goal

abbrev pub invariant-loop-k : goal.invariant-loop-k
invariant-loop-k l = CopiesSome l.matrix l.fn.lower l.lower l.row l.k
