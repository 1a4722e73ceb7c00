use Rattle.std.proofs.Common.{◌≡◌, ◌<◌, ◌^◌, take}
use Rattle.mpc_exact.specs.Denominator.{common_denom}
use Rattle.mpc_linear.proofs.integers.common_denominator.Given as goal

abbrev pub invariant-loop-fraction : goal.invariant-loop-fraction
invariant-loop-fraction l = record { value : l.all ≡ common_denom (take l.fraction-index l.fractions); small : l.all < 2 ^ 127 }
