use Rattle.mpc_check.specs.Findings.{Each}
use Rattle.mpc_check.specs.LawConditions.{LawAtMet}
use Rattle.mpc_check.proofs.laws.search_each.Given as goal

abbrev pub invariant-loop-place : goal.invariant-loop-place
invariant-loop-place l = Each (LawAtMet l.qp l.laws) l.place
