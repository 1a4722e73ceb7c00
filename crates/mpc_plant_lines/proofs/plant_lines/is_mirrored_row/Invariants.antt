use Rattle.std.proofs.Common.{◌≡◌, ℕ, ◌<◌}
use Rattle.mpc_space.specs.Vector.{cell}
use Rattle.mpc_plant_lines.proofs.plant_lines.is_mirrored_row.Given as goal

abbrev pub invariant-loop-column : goal.invariant-loop-column
invariant-loop-column l = (k : ℕ) → k < l.column → cell l.matrix.rows l.row k ≡ cell l.matrix.rows k l.row
