use Rattle.mpc_check.proofs.SumLemmas.{Weighed}
use Rattle.mpc_check.proofs.gradients.add_mults.Given as goal

abbrev pub invariant-loop-place : goal.invariant-loop-place
invariant-loop-place l = Weighed l.qp l.law l.line l.at_column l.start l.place l.sum
