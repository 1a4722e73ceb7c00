use Rattle.std.proofs.Common.{slice_index}
use Rattle.mpc_check.specs.Findings.{Each}
use Rattle.mpc_check.specs.LawConditions.{ActiveMet}
use Rattle.mpc_check.proofs.whole_laws.are_active.Given as goal

abbrev pub invariant-loop-place : goal.invariant-loop-place
invariant-loop-place l = Each (λ k. ActiveMet l.qp l.law (slice_index l.law.set k) l.at_column) l.place
