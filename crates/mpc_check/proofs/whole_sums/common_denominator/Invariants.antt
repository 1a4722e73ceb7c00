use Rattle.mpc_wholes.specs.Wholes.{IsDenominator}
use Rattle.mpc_check.proofs.whole_sums.common_denominator.Given as goal

abbrev pub invariant-loop-at_entry : goal.invariant-loop-at_entry
invariant-loop-at_entry l = IsDenominator l.all
