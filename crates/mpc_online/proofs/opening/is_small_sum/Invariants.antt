use Rattle.std.proofs.Common.{◌≤◌, ◌^◌, List}
use Rattle.mpc_exact.specs.Rational.{ℚ}
use Rattle.mpc_online.specs.Openings.{AreCountsTo}
use Rattle.mpc_online.proofs.SmallSums.{IsSmallSoFar}
use Rattle.mpc_online.proofs.opening.is_small_sum.Given as goal

abbrev pub invariant-loop-index : goal.invariant-loop-index
invariant-loop-index l = record { small : l.total ≤ 2 ^ 124; sums : (c : List ℚ) → AreCountsTo l.most c → IsSmallSoFar l.all l.entries c l.index l.total }
