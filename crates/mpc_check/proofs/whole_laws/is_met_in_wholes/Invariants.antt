use Rattle.mpc_check.specs.Findings.{Each}
use Rattle.mpc_check.specs.WholeLaws.{ColumnMet}
use Rattle.mpc_check.proofs.whole_laws.is_met_in_wholes.Given as goal

abbrev pub invariant-loop-at_column : goal.invariant-loop-at_column
invariant-loop-at_column l = Each (ColumnMet l.qp l.law) l.at_column
