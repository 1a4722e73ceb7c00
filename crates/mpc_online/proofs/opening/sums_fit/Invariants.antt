use Rattle.std.proofs.Common.{ℕ, ◌<◌, List, [], get_or}
use Rattle.mpc_exact.specs.Rational.{ℚ}
use Rattle.mpc_linear.specs.Dot.{DotFits}
use Rattle.mpc_online.specs.Openings.{AreCountsTo}
use Rattle.mpc_online.proofs.opening.sums_fit.Given as goal

abbrev pub invariant-loop-index : goal.invariant-loop-index
invariant-loop-index l = (c : List ℚ) → AreCountsTo l.most c → (i : ℕ) → i < l.index → DotFits (get_or l.matrix.rows i []) c
