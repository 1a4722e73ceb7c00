use Rattle.std.proofs.Common.{◌≡◌, ◌≤◌, ◌^◌, unsigned_abs}
use Rattle.mpc_exact.specs.Rational.{int, ◌*ℚ◌}
use Rattle.mpc_space.specs.Total.{total}
use Rattle.mpc_sweep.specs.Numbers.{number}
use Rattle.mpc_tree.proofs.rows.sum_of_products.Given as goal

abbrev pub invariant-loop-index : goal.invariant-loop-index
invariant-loop-index l = record {
  value : int l.sum ≡ total l.index (λ k. int (number l.left l.row k) *ℚ int (number l.moves k l.column));
  small : unsigned_abs l.sum ≤ 2 ^ 62;
}
