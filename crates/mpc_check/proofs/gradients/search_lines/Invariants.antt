use Rattle.mpc_check.specs.Findings.{Each}
use Rattle.mpc_check.specs.LawConditions.{LineMet}
use Rattle.mpc_check.proofs.gradients.search_lines.Given as goal

abbrev pub invariant-loop-line : goal.invariant-loop-line
invariant-loop-line l = Each (LineMet l.qp l.law) l.line
