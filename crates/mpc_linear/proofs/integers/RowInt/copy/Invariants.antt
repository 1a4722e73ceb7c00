use Rattle.std.proofs.Common.{◌≡◌, take}
use Rattle.mpc_linear.proofs.integers.RowInt.copy.Given as goal

abbrev pub invariant-loop-number : goal.invariant-loop-number
invariant-loop-number l = l.coefficients ≡ take l.number-index l.self.a
