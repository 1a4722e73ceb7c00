use Rattle.std.proofs.Common.{◌≡◌, ℕ, ◌<◌}
use Rattle.mpc_space.specs.Vector.{dot, listed}
use Rattle.mpc_linear.specs.Dot.{DotFits}
use Rattle.mpc_plant.specs.RollWidth.{row_at}
use Rattle.mpc_plant.proofs.costs.image.Given as goal

abbrev pub invariant-loop-i : goal.invariant-loop-i
invariant-loop-i l = record {
  entries : l.entries ≡ listed l.i (λ j. dot (row_at l.matrix j) l.vector);
  fits : (j : ℕ) → j < l.i → DotFits (row_at l.matrix j) l.vector;
}
