use Rattle.std.proofs.Common.{◌≡◌, ℕ, ◌<◌}
use Rattle.mpc_exact.specs.Rational.{◌+ℚ◌, neg_ℚ}
use Rattle.mpc_frac.specs.Fits.{FitsSum}
use Rattle.mpc_space.specs.Vector.{coordinate, listed}
use Rattle.mpc_plant.proofs.costs.gap.Given as goal

abbrev pub invariant-loop-i : goal.invariant-loop-i
invariant-loop-i l = record {
  entries : l.entries ≡ listed l.i (λ j. coordinate l.vector j +ℚ neg_ℚ (coordinate l.goal j));
  fits : (j : ℕ) → j < l.i → FitsSum (coordinate l.vector j) (neg_ℚ (coordinate l.goal j));
}
