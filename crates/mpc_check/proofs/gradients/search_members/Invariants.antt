use Rattle.mpc_check.specs.Findings.{Each}
use Rattle.mpc_check.specs.LawConditions.{MemberMet}
use Rattle.mpc_check.proofs.gradients.search_members.Given as goal

abbrev pub invariant-loop-place : goal.invariant-loop-place
invariant-loop-place l = Each (MemberMet l.qp l.law) l.place
