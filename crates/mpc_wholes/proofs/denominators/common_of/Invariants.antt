use Rattle.mpc_wholes.specs.Wholes.{IsDenominator}
use Rattle.mpc_wholes.proofs.denominators.common_of.Given as goal

abbrev pub invariant-loop-i : goal.invariant-loop-i
invariant-loop-i l = IsDenominator l.all
