use Rattle.std.proofs.Common.{ℕ, ◌<◌}
use Rattle.mpc_exact.specs.Rational.{IsNonneg}
use Rattle.mpc_space.specs.Vector.{coordinate}
use Rattle.mpc_rows.proofs.refuting.are_nonneg.Given as goal

abbrev pub invariant-loop-m : goal.invariant-loop-m
invariant-loop-m l = (k : ℕ) → k < l.m-index → IsNonneg (coordinate l.multipliers k)
