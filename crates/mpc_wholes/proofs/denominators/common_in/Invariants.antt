use Rattle.mpc_wholes.specs.Wholes.{IsDenominator}
use Rattle.mpc_wholes.proofs.denominators.common_in.Given as goal

abbrev pub invariant-loop-fraction : goal.invariant-loop-fraction
invariant-loop-fraction l = IsDenominator l.all
