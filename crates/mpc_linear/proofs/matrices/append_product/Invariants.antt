use Rattle.std.proofs.Common.{◌≡◌, ◌++◌, ℕ, ◌<◌}
use Rattle.mpc_space.specs.Vector.{column, dot, listed}
use Rattle.mpc_linear.specs.Dot.{DotFits}
use Rattle.mpc_linear.proofs.matrices.append_product.Given as goal

abbrev pub invariant-loop-j : goal.invariant-loop-j
invariant-loop-j l = record {
  items : l.entries.items ≡ l.fn.entries.items ++ listed l.j (λ k. dot l.row (column l.other.rows k));
  fits : (k : ℕ) → k < l.j → DotFits l.row (column l.other.rows k);
}
