use Rattle.mpc_check.specs.Findings.{Each}
use Rattle.mpc_check.specs.LawConditions.{StationaryMet}
use Rattle.mpc_check.proofs.gradients.search_line.Given as goal

abbrev pub invariant-loop-at_column : goal.invariant-loop-at_column
invariant-loop-at_column l = Each (StationaryMet l.qp l.law l.line) l.at_column
