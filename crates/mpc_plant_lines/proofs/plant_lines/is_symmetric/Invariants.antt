use Rattle.std.proofs.Common.{ℕ, ◌<◌}
use Rattle.mpc_plant_lines.specs.PlantNumbers.{IsMirroredRow}
use Rattle.mpc_plant_lines.proofs.plant_lines.is_symmetric.Given as goal

abbrev pub invariant-loop-row : goal.invariant-loop-row
invariant-loop-row l = (k : ℕ) → k < l.row → IsMirroredRow l.matrix k
