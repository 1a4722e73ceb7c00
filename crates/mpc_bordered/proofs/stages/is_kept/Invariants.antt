use Rattle.std.proofs.Common.{ℕ, ◌<◌}
use Rattle.mpc_space.specs.Matrix.{entry}
use Rattle.mpc_bordered.specs.Fronts.{front, EntryFits}
use Rattle.mpc_bordered.proofs.stages.is_kept.Given as goal

abbrev pub invariant-loop-row : goal.invariant-loop-row
invariant-loop-row l = (k i : ℕ) → k < l.pivot_column → i < l.row → EntryFits k (front (entry l.kept.table) k) i l.pivot_column
