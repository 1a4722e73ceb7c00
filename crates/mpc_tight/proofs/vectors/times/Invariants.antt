use Rattle.std.proofs.Common.{◌≡◌, ℕ, ◌<◌}
use Rattle.mpc_space.specs.Vector.{column, dot, listed}
use Rattle.mpc_linear.specs.Dot.{DotFits}
use Rattle.mpc_tight.proofs.vectors.times.Given as goal

abbrev pub invariant-loop-at_column : goal.invariant-loop-at_column
invariant-loop-at_column l = record {
  items : l.product ≡ listed l.at_column (λ i. dot l.row (column l.matrix.rows i));
  fits : (i : ℕ) → i < l.at_column → DotFits l.row (column l.matrix.rows i);
}
