use Rattle.mpc_rows.proofs.LawRowLemmas.{Excess}
use Rattle.mpc_rows.proofs.law_rows.excess_at.Given as goal

abbrev pub invariant-loop-k : goal.invariant-loop-k
invariant-loop-k l = Excess l.qp l.law l.row l.column l.k l.sum
