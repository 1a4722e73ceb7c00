use Rattle.std.proofs.Common.{ℕ, ◌<◌, get_or, []}
use Rattle.mpc_space.specs.Vector.{dot}
use Rattle.mpc_linear.specs.Dot.{DotFits}
use Rattle.mpc_online.proofs.Filled.{IsFilled}
use Rattle.mpc_online.proofs.solutions.products.Given as goal

abbrev pub invariant-loop-index : goal.invariant-loop-index
invariant-loop-index l = record {
  filled : IsFilled l.out.items l.index (λ i. dot (get_or l.matrix.rows i []) l.list);
  fits : (k : ℕ) → k < l.index → DotFits (get_or l.matrix.rows k []) l.list;
}
