use Rattle.std.proofs.Common.{◌≡◌, ℕ, ◌<◌}
use Rattle.mpc_linear.specs.Product.{RowFits}
use Rattle.mpc_linear.proofs.ProductLemmas.{product_rows}
use Rattle.mpc_linear.proofs.matrices.Matrix.times.Given as goal

abbrev pub invariant-loop-i : goal.invariant-loop-i
invariant-loop-i l = record {
  items : l.entries.items ≡ product_rows l.self l.other l.i;
  fits : (k : ℕ) → k < l.i → RowFits l.self l.other k;
}
