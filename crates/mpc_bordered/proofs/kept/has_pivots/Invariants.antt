use Rattle.std.proofs.Common.{ℕ, ◌+◌, ◌*◌, ◌<◌, get_or, None}
use Rattle.mpc_bordered.specs.Kept.{HasPivot}
use Rattle.mpc_bordered.proofs.kept.has_pivots.Given as goal

abbrev pub invariant-loop-pivot_column : goal.invariant-loop-pivot_column
invariant-loop-pivot_column l = (k : ℕ) → k < l.pivot_column → HasPivot (get_or l.entries (k * l.rows + k) None)
