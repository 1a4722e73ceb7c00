use Rattle.std.proofs.Common.{◌≡◌, take}
use Rattle.mpc_exact.specs.Denominator.{common_denom}
use Rattle.mpc_block.proofs.forms.denominator.Given as goal

abbrev pub invariant-loop-fraction : goal.invariant-loop-fraction
invariant-loop-fraction l = l.all ≡ common_denom (take l.fraction-index l.form)
