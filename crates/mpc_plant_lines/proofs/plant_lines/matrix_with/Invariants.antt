use Rattle.std.proofs.Common.{◌≡◌, ◌*◌}
use Rattle.mpc_plant_lines.specs.PlantNumbers.{filled}
use Rattle.mpc_plant_lines.proofs.plant_lines.matrix_with.Given as goal

abbrev pub invariant-loop-row : goal.invariant-loop-row
invariant-loop-row l = l.matrix ≡ filled l.rows l.columns (l.row * l.columns) l.entries
