use Rattle.std.proofs.Common.{◌≡◌, ◌+◌, ◌*◌}
use Rattle.mpc_space.specs.Matrix.{height}
use Rattle.mpc_plant_lines.specs.PlantNumbers.{filled}
use Rattle.mpc_plant_lines.proofs.plant_lines.write_row.Given as goal

abbrev pub invariant-loop-column : goal.invariant-loop-column
invariant-loop-column l = l.matrix ≡ filled (height l.initial.matrix) l.initial.matrix.columns (l.row * l.initial.matrix.columns + l.column) l.entries
