use Rattle.mpc_check.proofs.SumLemmas.{Moved}
use Rattle.mpc_check.proofs.gradients.add_moves.Given as goal

abbrev pub invariant-loop-place : goal.invariant-loop-place
invariant-loop-place l = Moved l.matrix l.moves l.at_row l.at_column l.start l.place l.sum
