use Rattle.mpc_check.specs.Findings.{Each}
use Rattle.mpc_check.specs.LawConditions.{ActiveMet}
use Rattle.mpc_check.proofs.gradients.search_row.Given as goal

abbrev pub invariant-loop-at_column : goal.invariant-loop-at_column
invariant-loop-at_column l = Each (ActiveMet l.qp l.law l.member) l.at_column
