use Rattle.mpc_check.specs.Findings.{EachFrom}
use Rattle.mpc_check.specs.LawConditions.{LawAtMet}
use Rattle.mpc_check.proofs.laws.are_seen_met.Given as goal

abbrev pub invariant-loop-place : goal.invariant-loop-place
invariant-loop-place l = EachFrom (LawAtMet l.qp l.laws) l.fn.stretch.from l.place
