use Rattle.mpc_check.specs.Findings.{Each}
use Rattle.mpc_check.specs.LawConditions.{StationaryMet}
use Rattle.mpc_check.proofs.whole_laws.are_stationary.Given as goal

abbrev pub invariant-loop-line : goal.invariant-loop-line
invariant-loop-line l = Each (λ r. StationaryMet l.qp l.law r l.at_column) l.line
